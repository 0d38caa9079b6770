-- Limits and codes of the NCT80 in the logic's numbers: a byte as signed degrees, the code of a word, the bit of a channel, bits of two bytes in one.
-- Assumes nothing.
use Prim.Native.Nat.{ℕ, ◌+◌, ◌*◌, ◌/◌, ◌%◌, ◌^◌, ◌<◌}
use native.Mathlib.Nat.{mod-eq_of_lt}
use native.Mathlib.Omega.{arith}
use mathlib.Core.Path.{◌≡◌, ap, ◌∙◌}
use mathlib.Core.Bool.{true}
use lib.Bits.{bit_and, and_le_r}
use lib.Dec.{ltb}
use lib.Pow.{pow-lt}
use borrow.Author.Tests.{ltb-true}
use mir.Syntax.{w8}
use mir.Val.{Fits, to_z}
use Rattle.readings.specs.Readings.{degrees_of, bits}
use Rattle.readings.proofs.Words.{number_by}

-- the logic's reading of 8 bits is the paper's
pub degrees_is : (n : ℕ) → n < 2 ^ 8 → to_z w8 n ≡ degrees_of n
degrees_is n h = number_by 128 255 n h

-- the ten-bit code of a word is what is left without its lowest six bits
pub code_is : (word : ℕ) → word < 2 ^ 16 → bits 15 6 word ≡ word / 64
code_is word h = omega arith

-- bit n of a byte counts 2 ^ n
pub bit_is : (n : ℕ) → n < 8 → 1 * 2 ^ n % 256 ≡ 2 ^ n
bit_is n h = ap (λ (m : ℕ). m % 256) (omega arith) ∙ mod-eq_of_lt (pow-lt h)

-- the bits under two masks that fit a byte together fit one
pub masked_sum : (a b m n : ℕ) → ltb (m + n) 256 ≡ true → Fits w8 (bit_and a m + bit_and b n)
masked_sum a b m n t = record { fits = omega (arith, and_le_r a m, and_le_r b n, ltb-true (m + n) 256 t) }
