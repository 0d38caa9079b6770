-- What a step is and which bits of the low byte count, once over the widths from 8 to 16: a word whose low byte is 0 is 256 times its
-- degrees and so 2 ^ (16 - w) times the steps of them, and what is left of a word without its 16 - w low bits has the high byte as it was.
-- Assumes nothing.
use Prim.Native.Nat.{ℕ, suc, ◌+◌, ◌-◌, ◌*◌, ◌/◌, ◌%◌, ◌^◌, ◌<◌, ◌≤◌}
use native.Mathlib.Omega.{arith}
use native.Mathlib.Nat.{div-add-mod', mod-lt, mul_assoc, add-mul, mul-pos}
use mathlib.Core.Path.{◌≡◌, refl, sym, ap, ap₂, ◌∙◌, subst}
use mathlib.Core.Bool.{Bool, true, false}
use borrow.Author.Tests.{ltb-true, ltb-false}
use lib.Arith.{digits_div}
use lib.Bits.{bit_and, and_high}
use lib.Dec.{ltb}
use lib.IntN.{ℤ, pos, negsuc, ◌*ℤ◌}
use lib.Pow.{pow_pos, shr_mod}
use Rattle.readings.specs.Readings.{word_of, bytes_of, as_number, floored, steps_at, bytes_at, cleared, steps_per_degree, degrees_of, low_bits}
use Rattle.readings.proofs.Integers.{below, negated}
use Rattle.readings.proofs.Words.{low_number, high_number}
use Rattle.readings.proofs.Scaled.{parts, floored_scaled}
use Rattle.readings.proofs.RoundTrip.{round_trip}

-- a product of three
scaled_twice : (z : ℤ) (a b : ℕ) → 0 < a → (z *ℤ pos a) *ℤ pos b ≡ z *ℤ pos (a * b)
scaled_twice (pos n) a b h = ap pos (mul_assoc n a b)
scaled_twice (negsuc n) a b h =
    let some : 0 < suc n * a = mul-pos (omega arith) h in
    let whole : suc (suc n * a - 1) ≡ suc n * a = omega arith in
    rw (negated (suc n * a) some, whole, mul_assoc (suc n) a b)

bytes_word : (high low : ℕ) → low < 2 ^ 8 → bytes_of (word_of high low) ≡ (high, low)
bytes_word high low h = ap₂ (λ (a b : ℕ). (a, b)) (omega arith) (omega arith)

-- a word whose low byte is 0
whole_word : (high : ℕ) → high < 2 ^ 8 → as_number (word_of high 0) ≡ degrees_of high *ℤ pos (2 ^ 8)
whole_word high h = by_sign (ltb high (2 ^ 7)) refl
  where
    by_sign : (b : Bool) → ltb high (2 ^ 7) ≡ b → as_number (word_of high 0) ≡ degrees_of high *ℤ pos (2 ^ 8)
    by_sign true e =
        let small : high < 2 ^ 7 = ltb-true high (2 ^ 7) e in
        rw (e, low_number (word_of high 0) (omega arith)) (ap pos (omega arith))
    by_sign false e =
        let large : 2 ^ 7 ≤ high = ltb-false high (2 ^ 7) e in
        rw (e, below high 256 h, high_number (word_of high 0) (omega arith) (omega arith), negated (suc (256 - suc high) * 256) (omega arith))
        (ap negsuc (omega arith))

module _ (w : ℕ) (least : 8 ≤ w) (most : w ≤ 16) where
  -- a degree of the word is 2 ^ (16 - w) for each of its steps
  pub degree : steps_per_degree w * 2 ^ (16 - w) ≡ 2 ^ 8
  degree = ap (λ (n : ℕ). 2 ^ (w - 8) * 2 ^ n) (omega arith) ∙ parts (w - 8) 8 (omega arith)

  -- a word without its 16 - w low bits: the high byte's steps, and the steps of the low byte
  pub word_steps : (high low : ℕ) → word_of high low / 2 ^ (16 - w) ≡ high * steps_per_degree w + low / 2 ^ (16 - w)
  word_steps high low =
      let m : ℕ = 2 ^ (16 - w) in
      let q : ℕ = low / m in
      let top : ℕ = high * steps_per_degree w in
      let whole : q * m + low % m ≡ low = div-add-mod' low m in
      let both : (top + q) * m ≡ word_of high (q * m) = add-mul top q m ∙ ap (λ (n : ℕ). n + q * m) (mul_assoc high (steps_per_degree w) m ∙ ap (λ (n : ℕ). high * n) degree) in
      let word : word_of high low ≡ (top + q) * m + low % m = omega arith in
      ap (λ (n : ℕ). n / m) word ∙ digits_div (top + q) (mod-lt low (pow_pos (16 - w)))

  -- "The step is 1 degree at width 8, 1/2 at 9, 1/8 at 11 .., 1/16 at 12": where the low byte is 0, the high byte is whole degrees
  pub whole_degrees : (high : ℕ) → high < 2 ^ 8 → steps_at w high 0 ≡ degrees_of high *ℤ pos (steps_per_degree w)
  whole_degrees high h =
      ap (λ (z : ℤ). floored z (2 ^ (16 - w)))
      (whole_word high h ∙ ap (λ (n : ℕ). degrees_of high *ℤ pos n) (sym degree) ∙ sym (scaled_twice (degrees_of high) (steps_per_degree w) (2 ^ (16 - w)) (pow_pos (w - 8))))
      ∙ floored_scaled (degrees_of high *ℤ pos (steps_per_degree w)) (16 - w)

  pub low_masked : (low : ℕ) → low < 2 ^ 8 → bit_and low (low_bits w) ≡ low / 2 ^ (16 - w) * 2 ^ (16 - w)
  low_masked low h =
      let eight : w - 8 + (16 - w) ≡ 8 = omega arith in
      subst (λ (n : ℕ). bit_and low (2 ^ n - 2 ^ (16 - w)) ≡ low / 2 ^ (16 - w) * 2 ^ (16 - w)) eight
      (and_high low (w - 8) (16 - w)
      ∙ ap (λ (n : ℕ). n * 2 ^ (16 - w)) (shr_mod (w - 8) (16 - w) (subst (λ (n : ℕ). low < 2 ^ n) (sym eight) h)))

  -- without its low bits a word has the high byte, and of the low byte the bits that count
  kept : (high low : ℕ) → low < 2 ^ 8 → cleared w high low ≡ (high, bit_and low (low_bits w))
  kept high low h =
      let m : ℕ = 2 ^ (16 - w) in
      let q : ℕ = low / m in
      let whole : q * m + low % m ≡ low = div-add-mod' low m in
      let both : (high * steps_per_degree w + q) * m ≡ word_of high (q * m) = add-mul (high * steps_per_degree w) q m ∙ ap (λ (n : ℕ). n + q * m) (mul_assoc high (steps_per_degree w) m ∙ ap (λ (n : ℕ). high * n) degree) in
      ap (λ (n : ℕ). bytes_of (n * m)) (word_steps high low) ∙ ap bytes_of both ∙ bytes_word high (q * m) (omega arith) ∙ ap (λ (n : ℕ). (high, n)) (sym (low_masked low h))

  -- the steps tell the high byte and exactly those bits of the low byte: "The other low bits are ignored on reading and written as zero"
  pub low_bits_told : (high low : ℕ) → high < 2 ^ 8 → low < 2 ^ 8 → bytes_at w (steps_at w high low) ≡ (high, bit_and low (low_bits w))
  low_bits_told high low h l = (round_trip w (omega arith) most).bytes_steps_bytes high low h l ∙ kept high low l

  pub low_bits_count : (high low : ℕ) → high < 2 ^ 8 → low < 2 ^ 8 → steps_at w high (bit_and low (low_bits w)) ≡ steps_at w high low
  low_bits_count high low h l =
      ap (λ (b : ℕ × ℕ). steps_at w b.0 b.1) (sym (low_bits_told high low h l))
      ∙ (round_trip w (omega arith) most).steps_bytes_steps (steps_at w high low) ((round_trip w (omega arith) most).steps_fit high low h l)
