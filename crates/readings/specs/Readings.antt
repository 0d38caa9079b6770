-- "Readings": what a temperature of a width and an NCT80 voltage word stand for, and a temperature whose low bits stand elsewhere in the low byte.
-- Assumes nothing.
use Rattle.std.specs.Prelude.{ℕ, suc, ◌+◌, ◌-◌, ◌*◌, ◌/◌, ◌%◌, ◌^◌, Bool, ◌&&◌, ◌||◌, cond, eqb, ltb, ℤ, pos, negsuc, neg_ℤ, ◌+ℤ◌, ◌-ℤ◌, ◌*ℤ◌}
use Rattle.std.specs.Int.Signed.{le_z, lt_z}

-- "the temperature width is not 8, 9, 11 or 12"
abbrev pub is_width : ℕ → Bool
is_width w = eqb w 8 || (eqb w 9 || (eqb w 11 || eqb w 12))

-- "two bytes", the high byte first
abbrev pub word_of : ℕ → ℕ → ℕ
word_of high low = high * 256 + low

abbrev pub bytes_of : ℕ → ℕ × ℕ
bytes_of word = (word / 256, word % 256)

-- "taken as a 16-bit two's complement number"
abbrev pub as_number : ℕ → ℤ
as_number word = cond (ltb word (2 ^ 15)) (pos word) (pos word -ℤ pos (2 ^ 16))

-- the word that stands for a number, from -2 ^ 15 to 2 ^ 15 - 1
abbrev pub as_word : ℤ → ℕ
as_word (pos n) = n
as_word (negsuc n) = 2 ^ 16 - suc n

-- "divided .., rounded towards minus infinity": `negsuc n` is -1 - n
abbrev pub floored : ℤ → ℕ → ℤ
floored (pos n) m = pos (n / m)
floored (negsuc n) m = negsuc (n / m)

-- "divided by 2 to the power 16 minus w, rounded towards minus infinity. The answer is a signed count of steps."
abbrev pub steps_at : ℕ → ℕ → ℕ → ℤ
steps_at w high low = floored (as_number (word_of high low)) (2 ^ (16 - w))

-- "The step is 1 degree at width 8, 1/2 at 9, 1/8 at 11 .., 1/16 at 12": the steps of one degree
abbrev pub steps_per_degree : ℕ → ℕ
steps_per_degree w = 2 ^ (w - 8)

-- the whole degrees of a high byte: a signed number of 8 bits
abbrev pub degrees_of : ℕ → ℤ
degrees_of high = cond (ltb high (2 ^ 7)) (pos high) (pos high -ℤ pos (2 ^ 8))

-- the bits of the low byte that count at a width, its upper w - 8: "bits 7 to 5" at 11, "bits 7 to 4" at 12
abbrev pub low_bits : ℕ → ℕ
low_bits w = 2 ^ 8 - 2 ^ (16 - w)

-- the two bytes of a count of steps: "The other low bits are .. written as zero"
abbrev pub bytes_at : ℕ → ℤ → ℕ × ℕ
bytes_at w steps = bytes_of (as_word (steps *ℤ pos (2 ^ (16 - w))))

-- "bytes to steps to bytes clears the ignored bits": the low 16 - w bits of the word are zero, the others stay
abbrev pub cleared : ℕ → ℕ → ℕ → ℕ × ℕ
cleared w high low = bytes_of (word_of high low / 2 ^ (16 - w) * 2 ^ (16 - w))

-- a number of steps fits the width: a signed number of w bits
abbrev pub fits : ℕ → ℤ → Bool
fits w steps = le_z (neg_ℤ (pos (2 ^ (w - 1)))) steps && lt_z steps (pos (2 ^ (w - 1)))

-- Where the low bits stand elsewhere: the w - 8 bits that count lie in the low byte from the bit worth `unit` on, 2 ^ (16 - w) where they are
-- left-aligned as above, 1 where they are right-aligned. So for L1's "low three bits right-aligned in the low byte", at width 11 and unit 1, the steps are
-- 8 times the signed high byte plus bits 2 to 0 of the low byte.
abbrev pub low_count : ℕ → ℕ → ℕ → ℕ
low_count w unit low = low / unit % steps_per_degree w

abbrev pub steps_from : ℕ → ℕ → ℕ → ℕ → ℤ
steps_from w unit high low = degrees_of high *ℤ pos (steps_per_degree w) +ℤ pos (low_count w unit low)

abbrev pub bytes_from : ℕ → ℕ → ℤ → ℕ × ℕ
bytes_from w unit steps = (as_word steps / steps_per_degree w % 2 ^ 8, as_word steps % steps_per_degree w * unit)

-- the bits of the low byte that count
abbrev pub bits_from : ℕ → ℕ → ℕ
bits_from w unit = steps_per_degree w * unit - unit

-- bits `upper` to `lower` of a word
abbrev pub bits : ℕ → ℕ → ℕ → ℕ
bits upper lower word = word / 2 ^ lower % 2 ^ (upper - lower + 1)

-- "An NCT80 voltage word gives its bits 15 to 6 times 2,500 microvolts"
abbrev pub voltage : ℕ → ℕ
voltage word = bits 15 6 word * 2500
