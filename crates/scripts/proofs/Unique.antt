-- No second answer of a call of `scripts` meets its contract, and no other bytes: what an answer tells is told by no other answer.
-- Assumes nothing.
use Rattle.std.specs.Prelude.{Result}
use Rattle.refusal.specs.declared.Refusal.{Refusal}
use Prim.Native.Nat.{ℕ}
use mathlib.Core.Path.{◌≡◌, sym, ◌∙◌}
use mathlib.Core.List.{List}
use Rattle.refusal.proofs.Answers.{tells_amount_injective}
use Rattle.refusal.specs.Checks.{Check}
use Rattle.pages.specs.declared.Chip.{Chip}
use Rattle.curves.specs.declared.Plan.{Plan}
use Rattle.scripts.specs.Promises.{ScriptsBy, Makes}

pub scripts_unique : {checks : List Check} {plan : Plan} {old : List ℕ} {r s : Result ℕ Refusal} {l m : List ℕ}
    → ScriptsBy checks plan old r l → ScriptsBy checks plan old s m → (r ≡ s) × (l ≡ m)
scripts_unique {r = r} {s = s} p q = (tells_amount_injective r s (p.answer ∙ sym q.answer), p.bytes ∙ sym q.bytes)

pub makes_unique : {chip : Chip} {plan : Plan} {count r s : ℕ} {old l m : List ℕ} → Makes chip plan count old r l → Makes chip plan count old s m
    → (r ≡ s) × (l ≡ m)
makes_unique p q = (p.answer ∙ sym q.answer, p.bytes ∙ sym q.bytes)
