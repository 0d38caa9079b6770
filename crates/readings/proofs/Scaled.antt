-- Steps and words at a width w: steps times 2 ^ (16 - w) fit 16 bits where the steps fit w, a left shift of their word is the product's word,
-- and the way there and back, in either direction, loses only the 16 - w low bits of a word.
-- Assumes nothing.
use Prim.Native.Nat.{ℕ, suc, ◌+◌, ◌-◌, ◌*◌, ◌/◌, ◌%◌, ◌^◌, ◌<◌, ◌≤◌}
use native.Mathlib.Omega.{arith}
use native.Mathlib.Nat.{div-add-mod', mod-lt, suc-mul, add-mul, mul-pos, mul-le-mul_left, mul-le-mul_right, mul-lt-mul_of_pos_right, div-lt_iff_lt-mul}
use mathlib.Core.Path.{◌≡◌, refl, sym, ap, ◌∙◌, subst}
use mathlib.Core.Bool.{Bool, true, false}
use lib.Dec.{ltb}
use lib.Arith.{digits_div}
use lib.Pow.{pow_pos, pow-add, shl-shr}
use lib.IntN.{ℤ, pos, negsuc, ◌*ℤ◌}
use lib.Signed.{mag}
use borrow.Author.Tests.{lt-ltb, ltb-true, ltb-false}
use mir.Syntax.{w16}
use mir.Val.{SFits}
use mir.Facts.{sfits_to_z}
use Rattle.readings.specs.Readings.{as_number, as_word, floored, steps_at, bytes_at, fits}
use Rattle.readings.proofs.Integers.{negated}
use Rattle.readings.proofs.Words.{number_is, number_word, low_number, high_number}
use Rattle.readings.proofs.Widths.{fits_is}

-- a power of two in two parts
pub parts : (j w : ℕ) → j ≤ w → 2 ^ j * 2 ^ (w - j) ≡ 2 ^ w
parts j w h = sym (pow-add 2 j (w - j)) ∙ ap (λ (n : ℕ). 2 ^ n) (omega arith)

halves : (w : ℕ) → 0 < w → w ≤ 16 → 2 ^ (w - 1) * 2 ^ (16 - w) ≡ 2 ^ 15
halves w l h = ap (λ (n : ℕ). 2 ^ (w - 1) * 2 ^ n) (omega arith) ∙ parts (w - 1) 15 (omega arith)

-- steps times 2 ^ k, divided again
pub floored_scaled : (s : ℤ) (k : ℕ) → floored (s *ℤ pos (2 ^ k)) (2 ^ k) ≡ s
floored_scaled (pos n) k = ap pos (shl-shr n k)
floored_scaled (negsuc n) k =
    let some : 0 < 2 ^ k = pow_pos k in
    let more : suc n * 2 ^ k ≡ n * 2 ^ k + 2 ^ k = suc-mul n (2 ^ k) in
    let rest : suc n * 2 ^ k - 1 ≡ n * 2 ^ k + (2 ^ k - 1) = omega arith in
    rw (negated (suc n * 2 ^ k) (omega arith), rest) (ap negsuc (digits_div n (omega arith)))

scaled_below : (s : ℤ) (k : ℕ) {m : ℕ} → mag s < m → mag (s *ℤ pos (2 ^ k)) < m * 2 ^ k
scaled_below (pos n) k h = mul-lt-mul_of_pos_right h (pow_pos k)
scaled_below (negsuc n) k {m} h =
    let some : 0 < suc n * 2 ^ k = mul-pos (omega arith) (pow_pos k) in
    let fewer : suc n * 2 ^ k ≤ m * 2 ^ k = mul-le-mul_right (2 ^ k) h in
    rw (negated (suc n * 2 ^ k) some) (omega arith)

floored_below : (z : ℤ) (k : ℕ) {m : ℕ} → mag z < m * 2 ^ k → mag (floored z (2 ^ k)) < m
floored_below (pos n) k h = (div-lt_iff_lt-mul (pow_pos k)).1 h
floored_below (negsuc n) k h = (div-lt_iff_lt-mul (pow_pos k)).1 h

-- a left shift loses only what 16 bits do not hold
pub shifted : (s : ℤ) (k : ℕ) → SFits w16 (s *ℤ pos (2 ^ k)) → as_word s * 2 ^ k % 2 ^ 16 ≡ as_word (s *ℤ pos (2 ^ k))
shifted (pos n) k f = omega (arith, f.sfits)
shifted (negsuc n) k f =
    let some : 0 < suc n * 2 ^ k = mul-pos (omega arith) (pow_pos k) in
    let fit : suc n * 2 ^ k - 1 < 2 ^ 15 = rw (negated (suc n * 2 ^ k) some) at f.sfits in
    let few : suc n * 1 ≤ suc n * 2 ^ k = mul-le-mul_left (suc n) (pow_pos k) in
    let both : (2 ^ 16 - suc n) * 2 ^ k + suc n * 2 ^ k ≡ 2 ^ 16 * 2 ^ k = sym (add-mul (2 ^ 16 - suc n) (suc n) (2 ^ k)) ∙ ap (λ (i : ℕ). i * 2 ^ k) (omega arith) in
    rw (negated (suc n * 2 ^ k) some) (omega arith)

-- a word from 2 ^ 15 on: the quotient of its complement is the complement of its quotient
complement : (m k n : ℕ) → m * 2 ^ k ≡ 2 ^ 16 → n < 2 ^ 16 → suc ((2 ^ 16 - suc n) / 2 ^ k) * 2 ^ k + n / 2 ^ k * 2 ^ k ≡ 2 ^ 16
complement m k n e h =
    let q : ℕ = n / 2 ^ k in
    let small : n % 2 ^ k < 2 ^ k = mod-lt n (pow_pos k) in
    let whole : q * 2 ^ k + n % 2 ^ k ≡ n = div-add-mod' n (2 ^ k) in
    let under : q < m = (div-lt_iff_lt-mul (pow_pos k)).1 (omega arith) in
    let apart : (m - suc q) * 2 ^ k + suc q * 2 ^ k ≡ 2 ^ 16 = sym (add-mul (m - suc q) (suc q) (2 ^ k)) ∙ ap (λ (i : ℕ). i * 2 ^ k) (omega arith) ∙ e in
    let more : suc q * 2 ^ k ≡ q * 2 ^ k + 2 ^ k = suc-mul q (2 ^ k) in
    let rest : 2 ^ 16 - suc n ≡ (m - suc q) * 2 ^ k + (2 ^ k - suc (n % 2 ^ k)) = omega arith in
    let quotient : (2 ^ 16 - suc n) / 2 ^ k ≡ m - suc q = ap (λ (i : ℕ). i / 2 ^ k) rest ∙ digits_div (m - suc q) (omega arith) in
    let last : suc (m - suc q) * 2 ^ k ≡ (m - suc q) * 2 ^ k + 2 ^ k = suc-mul (m - suc q) (2 ^ k) in
    rw quotient (omega arith)

module _ (w : ℕ) (some : 0 < w) (within : w ≤ 16) where
  pub scaled_fits : (s : ℤ) → fits w s ≡ true → SFits w16 (s *ℤ pos (2 ^ (16 - w)))
  scaled_fits s f =
      record { sfits = subst (λ (n : ℕ). mag (s *ℤ pos (2 ^ (16 - w))) < n) (halves w some within) (scaled_below s (16 - w) (ltb-true (mag s) (2 ^ (w - 1)) (sym (fits_is w s) ∙ f))) }

  pub steps_again : (s : ℤ) → fits w s ≡ true → steps_at w (bytes_at w s).0 (bytes_at w s).1 ≡ s
  steps_again s f =
      rw (div-add-mod' (as_word (s *ℤ pos (2 ^ (16 - w)))) 256, number_word (s *ℤ pos (2 ^ (16 - w))) (scaled_fits s f))
      (floored_scaled s (16 - w))

  -- the word of the steps of a word n: its ignored bits are cleared
  pub word_cleared : (n : ℕ) → n < 2 ^ 16 → as_word (floored (as_number n) (2 ^ (16 - w)) *ℤ pos (2 ^ (16 - w))) ≡ n / 2 ^ (16 - w) * 2 ^ (16 - w)
  word_cleared n h = go (ltb n (2 ^ 15)) refl
    where
      go : (b : Bool) → ltb n (2 ^ 15) ≡ b → as_word (floored (as_number n) (2 ^ (16 - w)) *ℤ pos (2 ^ (16 - w))) ≡ n / 2 ^ (16 - w) * 2 ^ (16 - w)
      go true t = rw (low_number n (ltb-true n (2 ^ 15) t))
      go false t = rw (high_number n (ltb-false n (2 ^ 15) t) h)
          (let e : suc ((2 ^ 16 - suc n) / 2 ^ (16 - w)) * 2 ^ (16 - w) + n / 2 ^ (16 - w) * 2 ^ (16 - w) ≡ 2 ^ 16 = complement (2 ^ w) (16 - w) n (parts w 16 within) h in
          let more : 0 < suc ((2 ^ 16 - suc n) / 2 ^ (16 - w)) * 2 ^ (16 - w) = mul-pos (omega arith) (pow_pos (16 - w)) in
          rw (negated (suc ((65536 - suc n) / 2 ^ (16 - w)) * 2 ^ (16 - w)) more) (omega arith))

  number_below : (n : ℕ) → n < 2 ^ 16 → mag (as_number n) < 2 ^ (w - 1) * 2 ^ (16 - w)
  number_below n h = rw (halves w some within, ← number_is n h) (sfits_to_z {w = w16} (record { fits = h })).sfits

  pub number_fits : (n : ℕ) → n < 2 ^ 16 → fits w (floored (as_number n) (2 ^ (16 - w))) ≡ true
  number_fits n h = fits_is w (floored (as_number n) (2 ^ (16 - w))) ∙ lt-ltb _ _ (floored_below (as_number n) (16 - w) (number_below n h))
