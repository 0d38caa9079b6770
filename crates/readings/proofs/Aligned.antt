-- Low bits that stand elsewhere in the low byte, once over the widths from 8 to 16 and over where they stand: the steps are those of the same bits
-- left-aligned, and the bytes are the left-aligned ones with the low byte's bits moved. So the ways there and back follow from `round_trip`.
-- Assumes nothing.
use Prim.Native.Nat.{ℕ, suc, ◌+◌, ◌-◌, ◌*◌, ◌/◌, ◌%◌, ◌^◌, ◌<◌, ◌≤◌}
use native.Mathlib.Omega.{arith}
use native.Mathlib.Nat.{div-add-mod', mod-lt, mul_assoc, add-mul, suc-mul, mul-le-mul_right, mul-div_cancel, mod-eq_of_lt}
use mathlib.Core.Path.{◌≡◌, refl, sym, ap, ap₂, ◌∙◌, subst}
use mathlib.Core.Bool.{Bool, true, false}
use borrow.Author.Tests.{ltb-true, ltb-false}
use lib.Arith.{digits_div}
use lib.Dec.{ltb}
use lib.IntN.{ℤ, pos, negsuc, ◌+ℤ◌, ◌*ℤ◌}
use lib.Pow.{pow_pos, shl-shr, shr_lt, shr_mod}
use Rattle.readings.specs.Readings.{word_of, bytes_of, as_word, fits, steps_at, bytes_at, steps_per_degree, degrees_of, low_count, steps_from, bytes_from}
use Rattle.readings.proofs.Integers.{below, negated}
use Rattle.readings.proofs.Words.{low_number, high_number}
use Rattle.readings.proofs.Scaled.{scaled_fits, shifted}
use Rattle.readings.proofs.RoundTrip.{round_trip}
use Rattle.readings.proofs.Degrees.{degree, word_steps, low_masked, low_bits_told}

-- "So steps to bytes to steps is the identity, and bytes to steps to bytes clears the ignored bits", wherever the low bits stand
pub record RoundTripFrom (w unit : ℕ) : Type 0 where
  pub steps_bytes_steps : (steps : ℤ) → fits w steps ≡ true → steps_from w unit (bytes_from w unit steps).0 (bytes_from w unit steps).1 ≡ steps
  pub bytes_steps_bytes : (high low : ℕ) → high < 256 → bytes_from w unit (steps_from w unit high low) ≡ (high, low_count w unit low * unit)
  pub steps_fit : (high low : ℕ) → high < 256 → fits w (steps_from w unit high low) ≡ true

module _ (w : ℕ) (least : 8 ≤ w) (most : w ≤ 16) where
  byte : (low : ℕ) → low < 2 ^ 8 → low < 2 ^ (w - 8 + (16 - w))
  byte low l = let eight : 8 ≡ w - 8 + (16 - w) = omega arith in subst (λ (n : ℕ). low < 2 ^ n) eight l

  -- what the low byte has above its ignored bits is less than a degree
  low_below : (low : ℕ) → low < 2 ^ 8 → low / 2 ^ (16 - w) < steps_per_degree w
  low_below low l = shr_lt (w - 8) (16 - w) (byte low l)

  -- the high byte counts degrees, and what the low byte has above its ignored bits is added
  steps_parts : (high low : ℕ) → high < 2 ^ 8 → low < 2 ^ 8 → steps_at w high low ≡ degrees_of high *ℤ pos (steps_per_degree w) +ℤ pos (low / 2 ^ (16 - w))
  steps_parts high low h l = by_sign (ltb high (2 ^ 7)) refl
    where
      by_sign : (b : Bool) → ltb high (2 ^ 7) ≡ b → steps_at w high low ≡ degrees_of high *ℤ pos (steps_per_degree w) +ℤ pos (low / 2 ^ (16 - w))
      by_sign true e =
          let small : high < 2 ^ 7 = ltb-true high (2 ^ 7) e in
          rw (e, low_number (word_of high low) (omega arith)) (ap pos (word_steps w least most high low))
      by_sign false e =
          let large : 2 ^ 7 ≤ high = ltb-false high (2 ^ 7) e in
          let m : ℕ = 2 ^ (16 - w) in
          let d : ℕ = steps_per_degree w in
          let q : ℕ = low / m in
          let r : ℕ = low % m in
          let a : ℕ = suc (256 - suc high) * d in
          let whole : q * m + r ≡ low = div-add-mod' low m in
          let rest : r < m = mod-lt low (pow_pos (16 - w)) in
          let few : q < d = low_below low l in
          let more : 1 * d ≤ a = mul-le-mul_right d (omega arith) in
          let product : a * m ≡ suc (256 - suc high) * 2 ^ 8 = mul_assoc (suc (256 - suc high)) d m ∙ ap (λ (n : ℕ). suc (256 - suc high) * n) (degree w least most) in
          let apart : (a - suc q) * m + suc q * m ≡ a * m = sym (add-mul (a - suc q) (suc q) m) ∙ ap (λ (n : ℕ). n * m) (omega arith) in
          let next : suc q * m ≡ q * m + m = suc-mul q m in
          let complement : 2 ^ 16 - suc (word_of high low) ≡ (a - suc q) * m + (m - suc r) = omega arith in
          let quotient : (2 ^ 16 - suc (word_of high low)) / m ≡ a - suc q = ap (λ (n : ℕ). n / m) complement ∙ digits_div (a - suc q) (omega arith) in
          rw (e, below high 256 h, high_number (word_of high low) (omega arith) (omega arith), quotient, negated a (omega arith), below q (suc (a - 1)) (omega arith))
          (ap negsuc (omega arith))

  -- less than a degree, left-aligned, is a byte
  moved : (n : ℕ) → n < steps_per_degree w → n * 2 ^ (16 - w) < 2 ^ 8
  moved n h =
      let some : 0 < 2 ^ (16 - w) = pow_pos (16 - w) in
      let fewer : suc n * 2 ^ (16 - w) ≤ steps_per_degree w * 2 ^ (16 - w) = mul-le-mul_right (2 ^ (16 - w)) h in
      omega (arith, suc-mul n (2 ^ (16 - w)), degree w least most)

  count_below : (unit low : ℕ) → low_count w unit low < steps_per_degree w
  count_below unit low = mod-lt (low / unit) (pow_pos (w - 8))

  -- bits that are moved to their place are found there
  placed : (unit n : ℕ) → 0 < unit → n < steps_per_degree w → low_count w unit (n * unit) ≡ n
  placed unit n some h = ap (λ (k : ℕ). k % steps_per_degree w) (mul-div_cancel n some) ∙ mod-eq_of_lt h

  -- the steps are those of the same bits left-aligned ..
  pub steps_tied : (unit high low : ℕ) → high < 2 ^ 8 → steps_from w unit high low ≡ steps_at w high (low_count w unit low * 2 ^ (16 - w))
  steps_tied unit high low h =
      ap (λ (n : ℕ). degrees_of high *ℤ pos (steps_per_degree w) +ℤ pos n) (sym (shl-shr (low_count w unit low) (16 - w)))
      ∙ sym (steps_parts high (low_count w unit low * 2 ^ (16 - w)) h (moved (low_count w unit low) (count_below unit low)))

  -- .. and where they are left-aligned, those of the rules paper
  pub steps_left : (high low : ℕ) → high < 2 ^ 8 → low < 2 ^ 8 → steps_from w (2 ^ (16 - w)) high low ≡ steps_at w high low
  steps_left high low h l =
      ap (λ (n : ℕ). degrees_of high *ℤ pos (steps_per_degree w) +ℤ pos n)
      (shr_mod (w - 8) (16 - w) (byte low l))
      ∙ sym (steps_parts high low h l)

  pub bytes_left : (steps : ℤ) → fits w steps ≡ true → bytes_from w (2 ^ (16 - w)) steps ≡ bytes_at w steps
  bytes_left steps f =
      let m : ℕ = 2 ^ (16 - w) in
      let d : ℕ = steps_per_degree w in
      let x : ℕ = as_word steps in
      let low : ℕ = x % d * m in
      let small : low < 2 ^ 8 = moved (x % d) (mod-lt x (pow_pos (w - 8))) in
      let product : x * m ≡ x / d * 2 ^ 8 + low = ap (λ (n : ℕ). n * m) (sym (div-add-mod' x d)) ∙ add-mul (x / d * d) (x % d) m ∙ ap (λ (n : ℕ). n + low) (mul_assoc (x / d) d m ∙ ap (λ (n : ℕ). x / d * n) (degree w least most)) in
      ap₂ (λ (a b : ℕ). (a, b)) (omega arith) (omega arith) ∙ ap (λ (n : ℕ). bytes_of (n % 2 ^ 16)) (sym product)
      ∙ ap bytes_of (shifted steps (16 - w) (scaled_fits w (omega arith) most steps f))

  -- the bytes are the left-aligned ones, with the bits of the low byte moved
  pub bytes_tied : (unit : ℕ) (steps : ℤ) → fits w steps ≡ true → bytes_from w unit steps ≡ ((bytes_at w steps).0, (bytes_at w steps).1 / 2 ^ (16 - w) * unit)
  bytes_tied unit steps f =
      ap (λ (n : ℕ). (as_word steps / steps_per_degree w % 2 ^ 8, n * unit)) (sym (shl-shr (as_word steps % steps_per_degree w) (16 - w)))
      ∙ ap (λ (b : ℕ × ℕ). (b.0, b.1 / 2 ^ (16 - w) * unit)) (bytes_left steps f)

  -- so the ways there and back are those of the left-aligned bits
  pub round_trip_from : (unit : ℕ) → 0 < unit → RoundTripFrom w unit
  round_trip_from unit some =
      let left = round_trip w (omega arith) most in
      record {
        steps_bytes_steps = λ steps f.
            let b : ℕ = as_word steps % steps_per_degree w in
            let few : b < steps_per_degree w = mod-lt (as_word steps) (pow_pos (w - 8)) in
            let top : ℕ = as_word steps / steps_per_degree w % 2 ^ 8 in
            let inside : top < 2 ^ 8 = omega arith in
            ap (λ (n : ℕ). degrees_of top *ℤ pos (steps_per_degree w) +ℤ pos n) (placed unit b some few ∙ sym (placed (2 ^ (16 - w)) b (pow_pos (16 - w)) few))
            ∙ steps_left top (b * 2 ^ (16 - w)) inside (moved b few)
            ∙ ap (λ (t : ℕ × ℕ). steps_at w t.0 t.1) (bytes_left steps f)
            ∙ left.steps_bytes_steps steps f;
        bytes_steps_bytes = λ high low h.
            let n : ℕ = low_count w unit low in
            let small : n * 2 ^ (16 - w) < 2 ^ 8 = moved n (count_below unit low) in
            ap (bytes_from w unit) (steps_tied unit high low h)
            ∙ bytes_tied unit (steps_at w high (n * 2 ^ (16 - w))) (left.steps_fit high (n * 2 ^ (16 - w)) h small)
            ∙ ap (λ (t : ℕ × ℕ). (t.0, t.1 / 2 ^ (16 - w) * unit)) (low_bits_told w least most high (n * 2 ^ (16 - w)) h small)
            ∙ ap (λ (k : ℕ). (high, k / 2 ^ (16 - w) * unit)) (low_masked w least most (n * 2 ^ (16 - w)) small)
            ∙ ap (λ (k : ℕ). (high, k * unit)) (shl-shr (n * 2 ^ (16 - w) / 2 ^ (16 - w)) (16 - w) ∙ shl-shr n (16 - w));
        steps_fit = λ high low h.
            ap (fits w) (steps_tied unit high low h) ∙ left.steps_fit high (low_count w unit low * 2 ^ (16 - w)) h (moved (low_count w unit low) (count_below unit low));
      }
