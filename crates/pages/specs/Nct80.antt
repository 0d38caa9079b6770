-- onsemi NCT80, source document 004; of a register of two bytes the card has the high one.
-- Each line: the address, the writable bits, the bits that clear on one, the power-on value. docs/CARDS.md has the choices.
-- Assumes nothing.
use Rattle.std.specs.Prelude.{ℕ, ◌+◌, ◌*◌, List, [], ◌∷◌}
use Rattle.pages.specs.declared.Effects.{Effects}
use Rattle.pages.specs.Banks.{one_bank}
use Rattle.pages.specs.Rows.{Line, Reading}
use Rattle.pages.specs.Sheets.{Sheet}

unfoldable pub card : List Line
card =
    -- configuration
    (0x00, 0xFF, 0x00, 0x08)  -- CONFIGURATIONREGISTER
    -- status: read only
    ∷ (0x01, 0x00, 0x00, 0x00)  -- STATUSREGISTER1
    ∷ (0x02, 0x00, 0x00, 0x00)  -- STATUSREGISTER2
    -- masks of the status bits
    ∷ (0x03, 0xFF, 0x00, 0x00)  -- MASKREGISTER1
    ∷ (0x04, 0xFF, 0x00, 0x00)  -- MASKREGISTER2
    -- pins, conversions and channels: a bit that is read only, or reserved, in 06h, 07h and 09h
    ∷ (0x05, 0xFF, 0x00, 0x14)  -- FAN_DIVISOR_OUTPUT_PIN_CONFIG
    ∷ (0x06, 0xFE, 0x00, 0x01)  -- OS_CONFIG_TEMP_RESOLUTION
    ∷ (0x07, 0x01, 0x00, 0x00)  -- CONVERSION_RATE
    ∷ (0x08, 0xFF, 0x00, 0x00)  -- CHANNEL_SELECT_REGISTER
    ∷ (0x09, 0x07, 0x00, 0x00)  -- CONVERSION_RATE_PROGRAMMING
    -- 0Ah to 1Fh: not listed
    -- value RAM, readings: read only
    ∷ (0x20, 0x00, 0x00, 0x00)  -- IN0_READING
    ∷ (0x21, 0x00, 0x00, 0x00)  -- IN1_READING
    ∷ (0x22, 0x00, 0x00, 0x00)  -- IN2_READING
    ∷ (0x23, 0x00, 0x00, 0x00)  -- IN3_READING
    ∷ (0x24, 0x00, 0x00, 0x00)  -- IN4_READING
    ∷ (0x25, 0x00, 0x00, 0x00)  -- IN5_READING
    ∷ (0x26, 0x00, 0x00, 0x00)  -- IN6_READING
    ∷ (0x27, 0x00, 0x00, 0x00)  -- TEMP_READING
    ∷ (0x28, 0x00, 0x00, 0x00)  -- TACH1_READING
    ∷ (0x29, 0x00, 0x00, 0x00)  -- TACH2_READING
    -- value RAM, limits
    ∷ (0x2A, 0xFF, 0x00, 0x00)  -- IN0_HIGH_LIMIT
    ∷ (0x2B, 0xFF, 0x00, 0x00)  -- IN0_LOW_LIMIT
    ∷ (0x2C, 0xFF, 0x00, 0x00)  -- IN1_HIGH_LIMIT
    ∷ (0x2D, 0xFF, 0x00, 0x00)  -- IN1_LOW_LIMIT
    ∷ (0x2E, 0xFF, 0x00, 0x00)  -- IN2_HIGH_LIMIT
    ∷ (0x2F, 0xFF, 0x00, 0x00)  -- IN2_LOW_LIMIT
    ∷ (0x30, 0xFF, 0x00, 0x00)  -- IN3_HIGH_LIMIT
    ∷ (0x31, 0xFF, 0x00, 0x00)  -- IN3_LOW_LIMIT
    ∷ (0x32, 0xFF, 0x00, 0x00)  -- IN4_HIGH_LIMIT
    ∷ (0x33, 0xFF, 0x00, 0x00)  -- IN4_LOW_LIMIT
    ∷ (0x34, 0xFF, 0x00, 0x00)  -- IN5_HIGH_LIMIT
    ∷ (0x35, 0xFF, 0x00, 0x00)  -- IN5_LOW_LIMIT
    ∷ (0x36, 0xFF, 0x00, 0x00)  -- IN6_HIGH_LIMIT
    ∷ (0x37, 0xFF, 0x00, 0x00)  -- IN6_LOW_LIMIT
    ∷ (0x38, 0xFF, 0x00, 0x55)  -- HOT_TEMP_HIGH_LIMIT
    ∷ (0x39, 0xFF, 0x00, 0x4B)  -- HOT_TEMP_HYSTERESIS_LIMIT
    ∷ (0x3A, 0xFF, 0x00, 0x55)  -- OS_TEMP_HIGH_LIMIT
    ∷ (0x3B, 0xFF, 0x00, 0x4B)  -- OS_TEMP_HYSTERESIS_LIMIT
    ∷ (0x3C, 0xFF, 0x00, 0xFF)  -- TACH1_COUNT_LIMIT
    ∷ (0x3D, 0xFF, 0x00, 0xFF)  -- TACH2_COUNT_LIMIT
    -- identity: read only
    ∷ (0x3E, 0x00, 0x00, 0x1A)  -- MANUFACTURERID
    -- 3Fh to FFh: not listed
    ∷ []

-- INITIALIZATION, "bit 7 of NCT80 register 00h", and Chassis_clear: "Bit 5 of the same register clears itself"
abbrev pub effects : List (ℕ × Effects)
effects = (0x00, record { initialize = 0x80; fleeting = 0x20 }) ∷ []

-- "Readings": "1/16 at 12 (chip 3: 27h and bits 7 to 4 of 06h)"
abbrev pub temperature : Reading
temperature = record { width = 12; high = 0x27 ∷ []; low = 0x06; bits = 0xF0; unit = 0x10 }

-- STATUSREGISTER1, which has a bit for each voltage, and STATUSREGISTER2, with a bit for the temperature and one for the OS limit
abbrev pub voltage_status : ℕ
voltage_status = 0x01

abbrev pub temperature_status : ℕ
temperature_status = 0x02

-- CHANNEL_SELECT_REGISTER: "bits 0 to 6 the voltages, bit 7 the temperature", each on where its channel is disabled
abbrev pub channel_select : ℕ
channel_select = 0x08

-- IN0_READING to IN6_READING, of the voltages by their numbers
abbrev pub reading_at : ℕ → ℕ
reading_at n = 0x20 + n

-- "limits alternate from 2Ah: IN0 high, IN0 low, IN1 high": IN0_HIGH_LIMIT to IN6_LOW_LIMIT
abbrev pub high_limit_at : ℕ → ℕ
high_limit_at n = 0x2A + 2 * n

abbrev pub low_limit_at : ℕ → ℕ
low_limit_at n = 0x2B + 2 * n

-- HOT_TEMP_HIGH_LIMIT, HOT_TEMP_HYSTERESIS_LIMIT, OS_TEMP_HIGH_LIMIT
abbrev pub hot_limit : ℕ
hot_limit = 0x38

abbrev pub hysteresis_limit : ℕ
hysteresis_limit = 0x39

abbrev pub os_limit : ℕ
os_limit = 0x3A

-- "it has no identity rule here"; "chip 3: none" of the fan tables
abbrev pub sheet : Sheet
sheet =
    record {
      number = 3;
      size = 256;
      banks = one_bank;
      card = card;
      effects = effects;
      status = voltage_status ∷ temperature_status ∷ [];
      identity = [];
      tables = [];
      temperatures = temperature ∷ [];
    }
