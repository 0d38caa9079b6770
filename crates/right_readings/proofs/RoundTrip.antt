-- The ways there and back of temperatures whose low three bits are right-aligned: those of any low bits, at width 11 and from bit 0 on; and from there, of
-- what `right_readings::right_steps` and `right_readings::right_bytes` answer.
-- Assumes nothing.
use Rattle.std.specs.Prelude.{Result, Ok}
use Rattle.refusal.specs.declared.Refusal.{Refusal}
use Prim.Native.Nat.{ℕ, ◌*◌, ◌/◌, ◌%◌, ◌^◌, ◌<◌}
use native.Mathlib.Omega.{arith}
use mathlib.Core.Path.{◌≡◌, refl, ap, ◌∙◌}
use mathlib.Core.Bool.{Bool, true, false}
use lib.IntN.{ℤ}
use Rattle.refusal.specs.Checks.{first}
use Rattle.readings.specs.Readings.{fits, steps_at, bytes_at, low_count, steps_from, bytes_from}
use Rattle.readings.specs.Promises.{tells_bytes}
use Rattle.readings.proofs.Unique.{tells_bytes_injective}
use Rattle.readings.proofs.Aligned.{RoundTripFrom, steps_tied, bytes_tied, round_trip_from}
use Rattle.right_readings.specs.Promises.{right_checks, CountsRight, GivesRight}

-- "the low three bits right-aligned in the low byte"
pub right_aligned : RoundTripFrom 11 1
right_aligned = round_trip_from 11 (omega arith) (omega arith) 1 (omega arith)

pub right_steps_tied : (high low : ℕ) → high < 2 ^ 8 → steps_from 11 1 high low ≡ steps_at 11 high (low % 8 * 32)
right_steps_tied high low h =
    let count : low_count 11 1 low ≡ low % 8 = omega arith in
    steps_tied 11 (omega arith) (omega arith) 1 high low h ∙ ap (λ (n : ℕ). steps_at 11 high (n * 32)) count

pub right_bytes_tied : (steps : ℤ) → fits 11 steps ≡ true → bytes_from 11 1 steps ≡ ((bytes_at 11 steps).0, (bytes_at 11 steps).1 / 32)
right_bytes_tied steps f =
    let low : (bytes_at 11 steps).1 / 32 * 1 ≡ (bytes_at 11 steps).1 / 32 = omega arith in
    bytes_tied 11 (omega arith) (omega arith) 1 steps f ∙ ap (λ (n : ℕ). ((bytes_at 11 steps).0, n)) low

-- 0 is told only where the check does not apply
told_fit : (n : ℤ) → 0 ≡ first (right_checks n) → fits 11 n ≡ true
told_fit n h = by_test (fits 11 n) refl
  where
    by_test : (b : Bool) → fits 11 n ≡ b → fits 11 n ≡ true
    by_test true e = e
    by_test false e = absurd (omega (arith, rw e at h))

written : {n : ℤ} {r : Result (ℕ × ℕ) Refusal} → fits 11 n ≡ true → GivesRight n r → tells_bytes r ≡ (0, bytes_from 11 1 n)
written f p = rw f at p.answer

-- the bytes that `right_bytes` gives for n steps are counted as n by `right_steps`
pub right_steps_come_back : {high low : ℕ} {m n : ℤ} → GivesRight n (Ok (high, low)) → CountsRight high low m → m ≡ n
right_steps_come_back {n} p q =
    let fit : fits 11 n ≡ true = told_fit n (ap (λ (t : ℕ × (ℕ × ℕ)). t.0) p.answer) in
    q.answer ∙ ap (λ (t : ℕ × (ℕ × ℕ)). steps_from 11 1 t.1.0 t.1.1) (written fit p) ∙ right_aligned.steps_bytes_steps n fit

-- two bytes that `right_steps` counts as n are, but for the ignored bits, what `right_bytes` gives for n
pub right_bytes_come_back_cleared : {high low : ℕ} {n : ℤ} {r : Result (ℕ × ℕ) Refusal} → high < 256 → CountsRight high low n → GivesRight n r → r ≡ Ok (high, low % 8)
right_bytes_come_back_cleared {high} {low} {n} {r} h p q =
    let fit : fits 11 n ≡ true = ap (fits 11) p.answer ∙ right_aligned.steps_fit high low h in
    let cleared : low_count 11 1 low * 1 ≡ low % 8 = omega arith in
    tells_bytes_injective r (Ok (high, low % 8))
    (written fit q ∙ ap (λ (t : ℕ × ℕ). (0, t)) (ap (bytes_from 11 1) p.answer ∙ right_aligned.bytes_steps_bytes high low h ∙ ap (λ (k : ℕ). (high, k)) cleared))
