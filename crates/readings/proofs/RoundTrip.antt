-- Steps to bytes to steps is the identity, and bytes to steps to bytes clears the ignored bits: once for any width from 1 to 16,
-- and from there, of what `readings::steps_of` and `readings::bytes_of` answer, at the widths of the paper.
-- Assumes nothing.
use Rattle.std.specs.Prelude.{Result, Ok}
use Rattle.refusal.specs.declared.Refusal.{Refusal}
use Prim.Native.Nat.{ℕ, ◌<◌, ◌≤◌}
use native.Mathlib.Omega.{arith}
use mathlib.Core.Path.{◌≡◌, refl, sym, ap, ◌∙◌, subst}
use mathlib.Core.Bool.{Bool, true, false}
use lib.IntN.{ℤ}
use Rattle.refusal.specs.Checks.{first}
use Rattle.readings.specs.Readings.{is_width, fits, word_of, bytes_of, steps_at, bytes_at, cleared}
use Rattle.readings.specs.Promises.{CountsSteps, GivesBytes, steps_checks, bytes_checks, tells_steps, tells_bytes}
use Rattle.readings.proofs.Widths.{bounds}
use Rattle.readings.proofs.Scaled.{steps_again, word_cleared, number_fits}
use Rattle.readings.proofs.Unique.{tells_steps_injective, tells_bytes_injective}

-- "So steps to bytes to steps is the identity, and bytes to steps to bytes clears the ignored bits. The fact is wanted once over the width."
pub record RoundTrip (w : ℕ) : Type 0 where
  pub steps_bytes_steps : (steps : ℤ) → fits w steps ≡ true → steps_at w (bytes_at w steps).0 (bytes_at w steps).1 ≡ steps
  pub bytes_steps_bytes : (high low : ℕ) → high < 256 → low < 256 → bytes_at w (steps_at w high low) ≡ cleared w high low
  pub steps_fit : (high low : ℕ) → high < 256 → low < 256 → fits w (steps_at w high low) ≡ true

pub round_trip : (w : ℕ) → 0 < w → w ≤ 16 → RoundTrip w
round_trip w some within =
    record {
      steps_bytes_steps = steps_again w some within;
      bytes_steps_bytes = λ high low h l. ap bytes_of (word_cleared w some within (word_of high low) (omega arith));
      steps_fit = λ high low h l. number_fits w some within (word_of high low) (omega arith);
    }

-- "the temperature width is .. 8, 9, 11 or 12"
pub at_a_width : (width : ℕ) → is_width width ≡ true → RoundTrip width
at_a_width width e = round_trip width (omega (arith, bounds width e)) (omega (arith, bounds width e))

-- no check applies: the answer tells 0 and its values
pub counted : {width high low : ℕ} {r : Result ℤ Refusal} → is_width width ≡ true → CountsSteps width high low r → tells_steps r ≡ (0, steps_at width high low)
counted e p = rw e at p.answer

written : {width : ℕ} {n : ℤ} {r : Result (ℕ × ℕ) Refusal} → is_width width ≡ true → fits width n ≡ true → GivesBytes width n r → tells_bytes r ≡ (0, bytes_at width n)
written e f p = rw (e, f) at p.answer

-- 0 is told only where no check applies
known_width : (width : ℕ) → 0 ≡ first (steps_checks width) → is_width width ≡ true
known_width width h = by_test (is_width width) refl
  where
    by_test : (a : Bool) → is_width width ≡ a → is_width width ≡ true
    by_test true e = e
    by_test false e = absurd (omega (arith, rw e at h))

none_applies : (width : ℕ) (n : ℤ) → 0 ≡ first (bytes_checks width n) → (is_width width ≡ true) × (fits width n ≡ true)
none_applies width n h = by_tests (is_width width) (fits width n) refl refl
  where
    by_tests : (a b : Bool) → is_width width ≡ a → fits width n ≡ b → (is_width width ≡ true) × (fits width n ≡ true)
    by_tests true true e f = (e, f)
    by_tests true false e f = absurd (omega (arith, simp (e, f) at h))
    by_tests false true e f = absurd (omega (arith, simp (e, f) at h))
    by_tests false false e f = absurd (omega (arith, simp (e, f) at h))

-- the bytes that `bytes_of` gives for n steps are counted as n by `steps_of`
pub steps_come_back : {width high low : ℕ} {n : ℤ} {r : Result ℤ Refusal} → GivesBytes width n (Ok (high, low)) → CountsSteps width high low r → r ≡ Ok n
steps_come_back {width} {high} {low} {n} {r} p q =
    let ok : (is_width width ≡ true) × (fits width n ≡ true) = none_applies width n (ap (λ (t : ℕ × (ℕ × ℕ)). t.0) p.answer) in
    let told_bytes : tells_bytes (Ok (high, low)) ≡ (0, bytes_at width n) = written ok.0 ok.1 p in
    tells_steps_injective r (Ok n)
    (counted ok.0 q ∙ ap (λ (z : ℤ). (0, z)) (ap (λ (t : ℕ × (ℕ × ℕ)). steps_at width t.1.0 t.1.1) told_bytes ∙ (at_a_width width ok.0).steps_bytes_steps n ok.1))

-- two bytes that `steps_of` counts as n are, but for the ignored bits, what `bytes_of` gives for n
pub bytes_come_back_cleared : {width high low : ℕ} {n : ℤ} {r : Result (ℕ × ℕ) Refusal} → high < 256 → low < 256 → CountsSteps width high low (Ok n) → GivesBytes width n r → r ≡ Ok (cleared width high low)
bytes_come_back_cleared {width} {high} {low} {n} {r} h l p q =
    let known : is_width width ≡ true = known_width width (ap (λ (t : ℕ × ℤ). t.0) p.answer) in
    let is : steps_at width high low ≡ n = sym (ap (λ (t : ℕ × ℤ). t.1) (counted known p)) in
    let fit : fits width n ≡ true = subst (λ (z : ℤ). fits width z ≡ true) is ((at_a_width width known).steps_fit high low h l) in
    tells_bytes_injective r (Ok (cleared width high low))
    (written known fit q ∙ ap (λ (t : ℕ × ℕ). (0, t)) (ap (bytes_at width) (sym is) ∙ (at_a_width width known).bytes_steps_bytes high low h l))
