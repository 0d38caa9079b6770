-- No second answer of `play` meets its contract, and no other bytes: what an answer tells is told by no other answer.
-- Assumes nothing.
use Rattle.std.specs.Prelude.{Result}
use Rattle.refusal.specs.declared.Refusal.{Refusal}
use Prim.Native.Nat.{ℕ}
use mathlib.Core.Path.{◌≡◌, sym, ◌∙◌}
use mathlib.Core.List.{List}
use Rattle.refusal.proofs.Answers.{tells_amount_injective}
use Rattle.refusal.specs.Checks.{Check}
use Rattle.curves.specs.declared.Plan.{Plan}
use Rattle.plays.specs.Promises.{PlaysBy}

pub plays_unique : {checks : List Check} {plan : Plan} {old : List ℕ} {count : ℕ} {r s : Result ℕ Refusal} {l m : List ℕ}
    → PlaysBy checks plan old count r l → PlaysBy checks plan old count s m → (r ≡ s) × (l ≡ m)
plays_unique {r = r} {s = s} p q = (tells_amount_injective r s (p.answer ∙ sym q.answer), p.bytes ∙ sym q.bytes)
