-- No second answer of `translate` meets its contract, and no other bytes: what an answer tells is told by no other answer.
-- Assumes nothing.
use Rattle.std.specs.Prelude.{Result}
use Rattle.refusal.specs.declared.Refusal.{Refusal}
use Prim.Native.Nat.{ℕ}
use mathlib.Core.Path.{◌≡◌, sym, ◌∙◌}
use mathlib.Core.List.{List}
use Rattle.refusal.proofs.Answers.{tells_amount_injective}
use Rattle.translation.specs.Promises.{Translates}

pub translates_unique : {input old : List ℕ} {r s : (Result ℕ Refusal)} {l m : List ℕ}
    → Translates input old r l → Translates input old s m → (r ≡ s) × (l ≡ m)
translates_unique {r = r} {s = s} p q = (tells_amount_injective r s (p.answer ∙ sym q.answer), p.bytes ∙ sym q.bytes)
