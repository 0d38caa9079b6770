-- A sample keeps the image's length, step by step.
-- Assumes nothing.
use Prim.Native.Nat.{ℕ, zero, suc, ◌/◌, ◌^◌}
use mathlib.Core.Path.{◌≡◌, refl, ◌∙◌}
use mathlib.Core.Bool.{Bool, true, false, cond}
use mathlib.Core.List.{List}
use lib.Bits.{bit_or}
use lib.IntN.{ℤ}
use lib.ListN.{length, get_or, set, length-set}
use Rattle.pages.specs.Nct80.{temperature, voltage_status, reading_at, high_limit_at, low_limit_at}
use Rattle.readings.specs.Readings.{bytes_from}
use Rattle.readings.specs.Sensors.{replaced, with_temperature}
use Rattle.channels.specs.Channels.{disabled, raised, beyond, voltage_taken, voltages_taken}

pub raised_length : (register bit : ℕ) (on : Bool) (image : List ℕ) → length (raised register bit on image) ≡ length image
raised_length register bit true image = length-set image register (bit_or (get_or image register 0) bit)
raised_length register bit false image = refl

either : (b : Bool) (new other : List ℕ) (n : ℕ) → length new ≡ n → length other ≡ n → length (cond b new other) ≡ n
either true new other n p q = p
either false new other n p q = q

pub voltage_length : (n word : ℕ) (image : List ℕ) → length (voltage_taken n word image) ≡ length image
voltage_length n word image =
    let over = beyond (get_or image (high_limit_at n) 0) (get_or image (low_limit_at n) 0) word in
    let stored = set image (reading_at n) (word / 256) in
    either (disabled n image) (set image (reading_at n) 0) (raised voltage_status (2 ^ n) over stored) (length image) (length-set image (reading_at n) 0)
    (raised_length voltage_status (2 ^ n) over stored ∙ length-set image (reading_at n) (word / 256))

pub voltages_length : (n : ℕ) (words image : List ℕ) → length (voltages_taken n words image) ≡ length image
voltages_length zero words image = refl
voltages_length (suc n) words image = voltage_length n (get_or words n 0) (voltages_taken n words image) ∙ voltages_length n words image

pub stored_length : (steps : ℤ) (image : List ℕ) → length (with_temperature temperature 0 steps image) ≡ length image
stored_length steps image =
    length-set (set image 0x27 (bytes_from 12 0x10 steps).0) 0x06 (replaced 0xF0 (get_or image 0x06 0) (bytes_from 12 0x10 steps).1)
    ∙ length-set image 0x27 (bytes_from 12 0x10 steps).0
