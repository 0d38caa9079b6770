-- Winbond W83793G, source document 001: three banks behind a bank select register.
-- Assumes nothing.
use Rattle.std.specs.Prelude.{ℕ, ◌+◌, true, false, List, [], ◌∷◌, ◌++◌}
use Rattle.pages.specs.declared.Required.{Required}
use Rattle.pages.specs.declared.Shape.TheVariants.{Slope}
use Rattle.pages.specs.Banks.{Banks}
use Rattle.pages.specs.Rows.{Line, required, required_one_of, Table, from}
use Rattle.pages.specs.Sheets.{Sheet}
use Rattle.pages.specs.W83793gBank0 as bank0
use Rattle.pages.specs.W83793gBank1 as bank1
use Rattle.pages.specs.W83793gBank2 as bank2

-- "An image holds all banks, one after the other"
unfoldable pub card : List Line
card = bank0.bank ++ (bank1.bank ++ bank2.bank)

-- "BANK Select", bits 2 to 0 of 00h, which with 0Dh to 0Fh stands in "Bank 0, 1, 2": these "can be access in all banks"
abbrev pub banks : Banks
banks = record { select = 0x00; bits = 0x07; shared = 0x00 ∷ 0x0D ∷ 0x0E ∷ 0x0F ∷ [] }

-- "the vendor byte in the image is the high one, whatever bank select holds"; "Device ID of W83793G B Version is 11", "C Version is 12"
abbrev pub identity : List Required
identity =
    required 0x0D 0xFF 0x5C
    ∷ required 0x0E 0xFF 0x7B
    ∷ required_one_of 0x0F 0xFF 0x11 0x12
    ∷ []

-- "7 temperature levels and 7 fan levels", and CriticalTemp, "All Fan Full Speed Temperature", 8.11.2.9, which all tables share; a duty has six bits, and
-- "the greatest duty its registers hold stands for 255"
abbrev pub table : ℕ → Table
table first =
    record {
      settings = from first 7 ++ (0x0C5 ∷ []);
      speeds = from (first + 8) 7;
      shape = Slope 7 63;
      leading = false;
      counted = true;
    }

-- 8.11.2.17: TD1Level01 to TR2Level67; 8.11.2.18: TD1FanLevel0 to TR2FanLevel6; tables 1 to 4 are those of TD1 to TD4, 5 and 6 those of TR1 and TR2
abbrev pub tables : List Table
tables = table 0x230 ∷ table 0x240 ∷ table 0x250 ∷ table 0x260 ∷ table 0x270 ∷ table 0x280 ∷ []

abbrev pub sheet : Sheet
sheet = record { number = 5; size = 768; banks = banks; card = card; effects = []; status = []; identity = identity; tables = tables; temperatures = [] }
