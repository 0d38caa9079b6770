-- Nuvoton NCT7904D, source document 003: five banks behind a bank select register.
-- Assumes nothing.
use Rattle.std.specs.Prelude.{ℕ, ◌+◌, true, false, List, [], ◌∷◌, ◌++◌}
use Rattle.pages.specs.declared.Required.{Required}
use Rattle.pages.specs.declared.Shape.TheVariants.{Slope}
use Rattle.pages.specs.Banks.{Banks}
use Rattle.pages.specs.Rows.{Line, required, Reading, Table, from}
use Rattle.pages.specs.Sheets.{Sheet}
use Rattle.pages.specs.Nct7904dBank0 as bank0
use Rattle.pages.specs.Nct7904dBank1 as bank1
use Rattle.pages.specs.Nct7904dBank2 as bank2
use Rattle.pages.specs.Nct7904dBank3 as bank3
use Rattle.pages.specs.Nct7904dBank4 as bank4

-- "An image holds all banks, one after the other"
unfoldable pub card : List Line
card = bank0.bank ++ (bank1.bank ++ (bank2.bank ++ (bank3.bank ++ bank4.bank)))

-- BANK_SEL, bits 2 to 0 of FFh. 7Ah to 7Ch are "available in all Bank Settings", and FFh is seen in every bank: one that can't be left could not be
-- loaded.
abbrev pub banks : Banks
banks = record { select = 0xFF; bits = 0x07; shared = 0x7A ∷ 0x7B ∷ 0x7C ∷ 0xFF ∷ [] }

-- "identity from its vendor, chip and device registers": both sets, of which the second is a "Duplicate"; the device is "5x"
abbrev pub identity : List Required
identity =
    required 0x0D 0xFF 0x50
    ∷ required 0x0E 0xFF 0xC5
    ∷ required 0x0F 0xF0 0x50
    ∷ required 0x7A 0xFF 0x50
    ∷ required 0x7B 0xFF 0xC5
    ∷ required 0x7C 0xF0 0x50
    ∷ []

-- "the low three bits right-aligned in the low byte", which stands behind the high byte
abbrev pub temperature : ℕ → Reading
temperature high = record { width = 11; high = high ∷ []; low = high + 1; bits = 0x07; unit = 1 }

-- 7.1.10: TEMP_CH1 to TEMP_CH4, which share their registers with VSEN2, VSEN4, VSEN6 and VSEN8, and LTD; 7.1.16: T_CPU1 to T_CPU8
abbrev pub temperatures : List Reading
temperatures =
    temperature 0x42 ∷ temperature 0x46 ∷ temperature 0x4A ∷ temperature 0x4E ∷ temperature 0x62
    ∷ temperature 0xA0 ∷ temperature 0xA2 ∷ temperature 0xA4 ∷ temperature 0xA6
    ∷ temperature 0xA8 ∷ temperature 0xAA ∷ temperature 0xAC ∷ temperature 0xAE
    ∷ []

-- T1 to T4 and P1 to P4 in a row, and critical before them: "the record's body being that table in register order"
abbrev pub table : ℕ → ℕ → Table
table critical first =
    record {
      settings = from first 4 ++ (critical ∷ []);
      speeds = from (first + 4) 4;
      shape = Slope 4 255;
      leading = true;
      counted = false;
    }

-- 7.4.16 and 7.4.19: tables 1 to 4, in bank 3; 7.5.3 and 7.5.5: tables 5 to 10, in bank 4
abbrev pub tables : List Table
tables =
    table 0x320 0x330 ∷ table 0x321 0x338 ∷ table 0x322 0x340 ∷ table 0x323 0x348
    ∷ table 0x410 0x430 ∷ table 0x411 0x438 ∷ table 0x412 0x440 ∷ table 0x413 0x448 ∷ table 0x414 0x450 ∷ table 0x415 0x458
    ∷ []

abbrev pub sheet : Sheet
sheet = record { number = 4; size = 1280; banks = banks; card = card; effects = []; status = []; identity = identity; tables = tables; temperatures = temperatures }
