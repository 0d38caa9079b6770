-- No second answer meets a contract of `right_readings`.
-- Assumes nothing.
use Rattle.std.specs.Prelude.{Result}
use Rattle.refusal.specs.declared.Refusal.{Refusal}
use Prim.Native.Nat.{ℕ}
use mathlib.Core.Path.{◌≡◌, sym, ◌∙◌}
use lib.IntN.{ℤ}
use Rattle.readings.proofs.Unique.{tells_bytes_injective}
use Rattle.right_readings.specs.Promises.{CountsRight, GivesRight, MeasuresInput}

pub counts_right_unique : {high low : ℕ} {m n : ℤ} → CountsRight high low m → CountsRight high low n → m ≡ n
counts_right_unique p q = p.answer ∙ sym q.answer

pub writes_right_unique : {n : ℤ} {r s : Result (ℕ × ℕ) Refusal} → GivesRight n r → GivesRight n s → r ≡ s
writes_right_unique {r} {s} p q = tells_bytes_injective r s (p.answer ∙ sym q.answer)

pub measures_input_unique : {input high low m n : ℕ} → MeasuresInput input high low m → MeasuresInput input high low n → m ≡ n
measures_input_unique p q = p.answer ∙ sym q.answer
