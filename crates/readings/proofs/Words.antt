-- A word and its two's complement number determine each other: below 2 ^ 15 they are equal, and from there on they differ by 2 ^ 16.
-- Assumes nothing.
use Prim.Native.Nat.{ℕ, suc, ◌+◌, ◌-◌, ◌^◌, ◌<◌, ◌≤◌}
use native.Mathlib.Omega.{arith}
use mathlib.Core.Path.{◌≡◌, refl, sym, ap, ◌∙◌}
use mathlib.Core.Bool.{Bool, true, false, cond}
use lib.Dec.{ltb}
use lib.IntN.{ℤ, pos, negsuc, ◌+ℤ◌, ◌-ℤ◌}
use borrow.Author.Tests.{lt-ltb, le-ltb}
use mir.Syntax.{w16}
use mir.Val.{SFits, sel, to_z, of_z}
use mir.Facts.{to_z-of_z, Fits-of_z}
use Rattle.readings.specs.Readings.{as_number, as_word}
use Rattle.readings.proofs.Integers.{below}

pub low_number : (n : ℕ) → n < 2 ^ 15 → as_number n ≡ pos n
low_number n h = rw (lt-ltb n 32768 h)

pub high_number : (n : ℕ) → 2 ^ 15 ≤ n → n < 2 ^ 16 → as_number n ≡ negsuc (2 ^ 16 - suc n)
high_number n l h = rw (le-ltb n 32768 l) (below n 65536 h)

same : (b : Bool) (x y : ℤ) → sel b x y ≡ cond b x y
same true x y = refl
same false x y = refl

-- Of any number of bits, whose top one is worth `half` and counts as much below zero: the logic's reading ..
pub number_by : (half k n : ℕ) → n < suc k → sel (ltb n half) (pos n) (negsuc (suc k - suc n)) ≡ cond (ltb n half) (pos n) (pos n -ℤ pos (suc k))
number_by half k n h = same (ltb n half) (pos n) (negsuc (suc k - suc n)) ∙ ap (cond (ltb n half) (pos n)) (sym (below n (suc k) h))

-- .. and the number without its top bit, which is then counted
pub top_by : (m k n : ℕ) → suc k ≡ suc m + suc m → suc m ≤ n → n < suc k
    → pos (n - suc m) +ℤ negsuc m ≡ cond (ltb n (suc m)) (pos n) (pos n -ℤ pos (suc k))
top_by m k n e l h =
    below (n - suc m) (suc m) (omega (arith, e, l, h))
    ∙ ap negsuc (omega (arith, e, l, h))
    ∙ sym (below n (suc k) h)
    ∙ sym (ap (λ (b : Bool). cond b (pos n) (pos n -ℤ pos (suc k))) (le-ltb n (suc m) l))

-- the logic's reading of 16 bits is the paper's
pub number_is : (n : ℕ) → n < 2 ^ 16 → to_z w16 n ≡ as_number n
number_is n h = number_by 32768 65535 n h

pub word_is : (z : ℤ) → of_z w16 z ≡ as_word z
word_is (pos n) = refl
word_is (negsuc n) = refl

pub number_word : (z : ℤ) → SFits w16 z → as_number (as_word z) ≡ z
number_word z f = rw (← word_is z) (sym (number_is (of_z w16 z) (Fits-of_z f).fits) ∙ to_z-of_z f)
