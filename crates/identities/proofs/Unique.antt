-- No second answer of `identities::confirm` meets its contract: what an answer tells is told by no other.
-- Assumes nothing.
use Rattle.std.specs.Prelude.{Result, ⊤}
use Rattle.refusal.specs.declared.Refusal.{Refusal}
use Prim.Native.Nat.{ℕ}
use mathlib.Core.Path.{◌≡◌, sym, ◌∙◌}
use mathlib.Core.List.{List}
use Rattle.refusal.proofs.Answers.{tells_injective}
use Rattle.identities.specs.Promises.{Confirms}

pub confirms_unique : {chip : ℕ} {image : List ℕ} {r s : (Result ⊤ Refusal)} → Confirms chip image r → Confirms chip image s → r ≡ s
confirms_unique {r = r} {s = s} p q = tells_injective r s (p.answer ∙ sym q.answer)
