-- No second answer of a call of `plans` meets its contract: what an answer tells is told by no other answer.
-- Assumes nothing.
use Rattle.std.specs.Prelude.{Result, ⊤}
use Rattle.pages.specs.declared.Chip.{Chip}
use Rattle.refusal.specs.declared.Refusal.{Refusal}
use Prim.Native.Nat.{ℕ}
use mathlib.Core.Path.{◌≡◌, sym, ◌∙◌}
use mathlib.Core.List.{List}
use Rattle.refusal.proofs.Answers.{tells_injective, tells_or_injective}
use Rattle.refusal.specs.Checks.{Check}
use Rattle.curves.specs.declared.Plan.{Plan}
use Rattle.plans.specs.Promises.{tells_asked, Accepts, Judges, AsksPlanBy, AsksImage}

pub tells_asked_injective : (r s : Result ℕ Refusal) → tells_asked r ≡ tells_asked s → r ≡ s
tells_asked_injective r s e = tells_or_injective 0 r s e

pub accepts_unique : {plan : Plan} {r s : Result Chip Refusal} → Accepts plan r → Accepts plan s → r ≡ s
accepts_unique p q = p.answer ∙ sym q.answer

pub judges_unique : {plan : Plan} {r s : Result ⊤ Refusal} → Judges plan r → Judges plan s → r ≡ s
judges_unique {r = r} {s = s} p q = tells_injective r s (p.answer ∙ sym q.answer)

pub asks_plan_unique : {checks : List Check} {plan : Plan} {t : ℕ} {r s : Result ℕ Refusal} → AsksPlanBy checks plan t r → AsksPlanBy checks plan t s → r ≡ s
asks_plan_unique {r = r} {s = s} p q = tells_asked_injective r s (p.answer ∙ sym q.answer)

pub asks_image_unique : {chip table : ℕ} {image : List ℕ} {t : ℕ} {r s : Result ℕ Refusal}
    → AsksImage chip table image t r → AsksImage chip table image t s → r ≡ s
asks_image_unique {r = r} {s = s} p q = tells_asked_injective r s (p.answer ∙ sym q.answer)
