-- "Status bits live in the chip": what a sample of the NCT80, "a temperature and seven voltage words", makes of the chip's state.
-- Assumes nothing.
use Rattle.std.specs.Prelude.{ℕ, zero, suc, ◌*◌, ◌/◌, ◌^◌, Bool, cond, not, ◌||◌, List, eqb, ltb, ℤ, pos, get_or, set}
use Rattle.std.specs.Int.Bits.{bit_and, bit_or}
use Rattle.std.specs.Int.Signed.{lt_z}
use Rattle.pages.specs.Nct80.{temperature, voltage_status, temperature_status, channel_select, reading_at, high_limit_at, low_limit_at, hot_limit, hysteresis_limit, os_limit}
use Rattle.readings.specs.Readings.{degrees_of, bits}
use Rattle.readings.specs.Sensors.{with_temperature}
use Rattle.watch.specs.declared.Watch.{Watch}
use Rattle.watch.specs.Alarm.{in_steps, shown, sample, after}

-- the chip's state: the lent image and, beside it, the watch by value
pub record State : Type 0 where
  pub image : List ℕ
  pub watch : Watch

-- a bit of a byte is on; bit n counts 2 ^ n
abbrev pub is_on : ℕ → ℕ → Bool
is_on bit byte = not (eqb (bit_and byte bit) 0)

-- "channels disabled at 08h": bits 0 to 6 are the voltages, bit 7 the temperature
abbrev pub disabled : ℕ → List ℕ → Bool
disabled channel image = is_on (2 ^ channel) (get_or image channel_select 0)

-- a sample sets status bits and clears none
abbrev pub raised : ℕ → ℕ → Bool → List ℕ → List ℕ
raised register bit on image = cond on (set image register (bit_or (get_or image register 0) bit)) image

-- "strictly above its high or strictly below its low limit", by the ten-bit code of the word; a limit counts 10 mV, four codes
abbrev pub beyond : ℕ → ℕ → ℕ → Bool
beyond high low word = ltb (4 * high) (bits 15 6 word) || ltb (bits 15 6 word) (4 * low)

-- A voltage of a sample: its high byte at 20h to 26h, and bit n of 01h for INn. A channel that is disabled stores 0 and raises nothing.
abbrev pub voltage_taken : ℕ → ℕ → List ℕ → List ℕ
voltage_taken n word image =
    cond (disabled n image) (set image (reading_at n) 0)
    (raised voltage_status (2 ^ n) (beyond (get_or image (high_limit_at n) 0) (get_or image (low_limit_at n) 0) word) (set image (reading_at n) (word / 256)))

-- the first n of the voltages, in turn
abbrev pub voltages_taken : ℕ → List ℕ → List ℕ → List ℕ
voltages_taken zero words image = image
voltages_taken (suc n) words image = voltage_taken n (get_or words n 0) (voltages_taken n words image)

-- a limit as signed whole degrees
abbrev pub limit_in : ℕ → List ℕ → ℤ
limit_in register image = degrees_of (get_or image register 0)

-- the watch, fed with the limits at 38h and 39h
abbrev pub fed : ℤ → State → Watch
fed steps state = after state.watch (sample steps (limit_in hot_limit state.image) (limit_in hysteresis_limit state.image))

-- whether the temperature is strictly above 3Ah in whole degrees
abbrev pub above_os : ℤ → List ℕ → Bool
above_os steps image = lt_z (in_steps (limit_in os_limit image)) steps

-- The temperature of a sample: it is stored at 27h and in bits 7 to 4 of 06h, whose bits 3 to 0 stay; bit 0 of 02h goes on where the watch has its
-- output on, bit 5 where the temperature is strictly above 3Ah. Disabled, it stores 0, raises nothing and does not feed the watch.
abbrev pub temperature_taken : ℤ → State → State
temperature_taken steps state =
    let watch : Watch = fed steps state in
    cond (disabled 7 state.image) (record { image = with_temperature temperature 0 (pos 0) state.image; watch = state.watch })
    (record {
      image = raised temperature_status (2 ^ 5) (above_os steps state.image)
          (raised temperature_status (2 ^ 0) (shown watch.behaviour watch.hot watch.pending) (with_temperature temperature 0 steps state.image));
      watch = watch;
    })

-- a sample of chip 3, "a temperature and seven voltage words", the steps of 12 bits: in the order in which the sheet monitors them
unfoldable pub sampled : ℤ → List ℕ → State → State
sampled steps words state = record { image = voltages_taken 7 words (temperature_taken steps state).image; watch = (temperature_taken steps state).watch }
