-- No second answer meets a contract of `readings`: what an answer tells determines it, since an accepted call tells 0 and no refusal's number is 0.
-- Assumes nothing.
use Rattle.std.specs.Prelude.{Result}
use Rattle.refusal.specs.declared.Refusal.{Refusal}
use Prim.Native.Nat.{ℕ}
use mathlib.Core.Path.{◌≡◌, sym, ◌∙◌}
use lib.IntN.{ℤ, pos}
use Rattle.refusal.proofs.Answers.{tells_or_injective}
use Rattle.readings.specs.Promises.{tells_steps, tells_bytes, Encodes, CountsSteps, GivesBytes, Measures}

pub tells_steps_injective : (a b : Result ℤ Refusal) → tells_steps a ≡ tells_steps b → a ≡ b
tells_steps_injective = tells_or_injective (pos 0)

pub tells_bytes_injective : (a b : Result (ℕ × ℕ) Refusal) → tells_bytes a ≡ tells_bytes b → a ≡ b
tells_bytes_injective = tells_or_injective (0, 0)

pub encodes_unique : {number : ℤ} {m n : ℕ} → Encodes number m → Encodes number n → m ≡ n
encodes_unique p q = p.answer ∙ sym q.answer

pub counts_unique : {width high low : ℕ} {r s : Result ℤ Refusal} → CountsSteps width high low r → CountsSteps width high low s → r ≡ s
counts_unique {r} {s} p q = tells_steps_injective r s (p.answer ∙ sym q.answer)

pub writes_unique : {width : ℕ} {n : ℤ} {r s : Result (ℕ × ℕ) Refusal} → GivesBytes width n r → GivesBytes width n s → r ≡ s
writes_unique {r} {s} p q = tells_bytes_injective r s (p.answer ∙ sym q.answer)

pub measures_unique : {word m n : ℕ} → Measures word m → Measures word n → m ≡ n
measures_unique p q = p.answer ∙ sym q.answer
