-- "Readings": the temperature that a register image holds, by where its chip holds it, and an image in which one is stored.
-- Assumes nothing.
use Rattle.std.specs.Prelude.{ℕ, ◌+◌, ◌-◌, ◌^◌, List, ℤ, get_or, set}
use Rattle.std.specs.Int.Bits.{bit_and}
use Rattle.pages.specs.Rows.{Reading}
use Rattle.readings.specs.Readings.{steps_from, bytes_from}

-- where the high byte of a sensor stands; the sensors are counted from 0
abbrev pub high_at : Reading → ℕ → ℕ
high_at t sensor = get_or t.high sensor 0

-- "chip 1: high byte and bits 7 to 5 of 05h", "chip 3: 27h and bits 7 to 4 of 06h", L1's "low three bits right-aligned in the low byte": the other low
-- bits are ignored, at any width and wherever they stand
abbrev pub temperature_in : Reading → ℕ → List ℕ → ℤ
temperature_in t sensor image = steps_from t.width t.unit (get_or image (high_at t sensor) 0) (get_or image t.low 0)

-- the bits of a byte that do not count
abbrev pub ignored : ℕ → ℕ → ℕ
ignored bits byte = bit_and byte (2 ^ 8 - 1 - bits)

-- a byte whose bits that count are replaced
abbrev pub replaced : ℕ → ℕ → ℕ → ℕ
replaced bits old new = bit_and new bits + ignored bits old

-- an image in which a sensor's temperature is stored
abbrev pub with_temperature : Reading → ℕ → ℤ → List ℕ → List ℕ
with_temperature t sensor steps image =
    set (set image (high_at t sensor) (bytes_from t.width t.unit steps).0) t.low
    (replaced t.bits (get_or image t.low 0) (bytes_from t.width t.unit steps).1)
