-- A chip as one page of facts, everything that sets it apart from the others; and what is read off a page.
-- Assumes nothing.
use Rattle.std.specs.Prelude.{ℕ, ◌+◌, ◌-◌, Bool, true, false, cond, ◌&&◌, List, [], ◌∷◌, ◌++◌, map, eqb, leb, length, get_or, take, drop, Option, Some, None}
use Rattle.pages.specs.declared.Effects.{Effects}
use Rattle.pages.specs.declared.Ground.{Ground}
use Rattle.pages.specs.declared.Register.{Register}
use Rattle.pages.specs.declared.Stretch.{Stretch}
use Rattle.pages.specs.declared.Selector.{Selector}
use Rattle.pages.specs.declared.Required.{Required}
use Rattle.pages.specs.declared.Sizes.{Sizes}
use Rattle.pages.specs.declared.Shape.{Shape}
use Rattle.pages.specs.declared.Shape.TheVariants.{Slope, Steps}
use Rattle.pages.specs.declared.Layout.{Layout}
use Rattle.pages.specs.Banks.{Banks, no_bank, selects_from}
use Rattle.pages.specs.Rows.{every, Line, Table, Reading, positions, row_in, register_at, no_register, stretch, column}

-- no image has more bytes
abbrev pub greatest : ℕ
greatest = 1280

-- "we want up to eight": no slope has more points ..
abbrev pub most_points : ℕ
most_points = 8

-- .. and no fan table more registers: as many temperatures, critical, as many duties
abbrev pub longest : ℕ
longest = most_points + 1 + most_points

-- no script has more writes
abbrev pub most_writes : ℕ
most_writes = 25

pub record Sheet : Type 0 where
  -- "Chip 1 is the Nuvoton NCT7802Y (source document 000), chip 2 the Fintek F75373S (002), chip 3 the onsemi NCT80 (004)"; the NCT7904D (003) is
  -- "chip 4", and "chip 5, the W83793G" (001)
  pub number : ℕ
  -- how many bytes its image has
  pub size : ℕ
  -- how its registers stand in banks
  pub banks : Banks
  pub card : List Line
  -- the registers with bits that do more than stand there
  pub effects : List (ℕ × Effects)
  -- the status registers: a read clears the one that it reads, and is the acknowledge
  pub status : List ℕ
  -- every register that counts; where there is none, nothing is confirmed
  pub identity : List Required
  -- the fan tables, with the numbers from 1 on
  pub tables : List Table
  -- where its temperatures stand, as far as the rules paper says
  pub temperatures : List Reading

-- what is counted of a chip
abbrev pub sizes_in : Sheet → Sizes
sizes_in sheet = record { image = sheet.size; identity = length sheet.identity; status = length sheet.status }

-- "Reset fills the image with the power-on column."
unfoldable pub power_on_in : Sheet → List ℕ
power_on_in sheet = column sheet.size (λ position. (row_in sheet.card position).power)

-- a table without a register stands in where there is none, as for number 0
abbrev pub missing : Table
missing = record { settings = []; speeds = []; shape = Steps; leading = false; counted = false }

-- how many settings and speeds a curve of a shape has: a temperature for each point and critical, and a duty for each point; B1 to B4, the high and
-- low bytes of C1 to C5
abbrev pub room : Shape → ℕ × ℕ
room (Slope points full) = (points + 1, points)
room Steps = (4, 10)

-- whether there is a table of that number, and which it is
abbrev pub has_table_in : List Table → ℕ → Bool
has_table_in tables number = leb 1 number && leb number (length tables)

abbrev pub table_in : List Table → ℕ → Table
table_in tables number = get_or (missing ∷ tables) number missing

-- every register of the table takes every bit, "mask FFh"
abbrev pub whole_in : List Line → Table → Bool
whole_in card table = every (λ position. eqb (row_in card position).writable 0xFF) (positions table)

-- the registers that a script of the table writes to, in its order: every speed, every setting, every speed again
abbrev pub loaded : Table → List ℕ
loaded table = table.speeds ++ (table.settings ++ table.speeds)

-- how many registers it has of each kind, what its curve is, whether they take every bit, how many selects its script has, and how a
-- record has it
abbrev pub layout : Banks → List Line → Table → Layout
layout banks card table =
    record {
      settings = length table.settings;
      speeds = length table.speeds;
      shape = table.shape;
      whole = whole_in card table;
      selects = selects_from banks no_bank (loaded table);
      leading = table.leading;
      counted = table.counted;
    }

-- whether a number of points goes with a table: where its record carries one, it is that of its duties
abbrev pub goes_with : Layout → ℕ → Bool
goes_with layout points = cond layout.counted (eqb points layout.speeds) true

abbrev pub laid_in : Sheet → ℕ → Option Layout
laid_in sheet number =
    cond (has_table_in sheet.tables number) (Some (layout sheet.banks sheet.card (table_in sheet.tables number))) None

-- the bank select register and its bits that say the bank; without a bit there is one bank only, and no register that selects
abbrev pub selector_in : Sheet → Selector
selector_in sheet =
    cond (eqb sheet.banks.bits 0) (record { register = no_register; bits = 0x00 })
    (record { register = register_at sheet.card sheet.banks.select; bits = sheet.banks.bits })

-- the k-th register of a table, settings first
abbrev pub register_in : Sheet → ℕ → ℕ → Register
register_in sheet number k = get_or (map (register_at sheet.card) (positions (table_in sheet.tables number))) k no_register

-- the stretch that some positions are: as many registers as these, from the first one on, with its masks
abbrev pub stretch_of : List Line → List ℕ → Stretch
stretch_of card ps = stretch (get_or ps 0 0) (length ps) (get_or (map (register_at card) ps) 0 no_register).masks

-- where a table stands: its settings but for the last, the last one, its speeds. That these are its registers, each page is tested for.
abbrev pub ground_in : List Line → Table → Ground
ground_in card table =
    record {
      settings = stretch_of card (take (length table.settings - 1) table.settings);
      last = stretch_of card (drop (length table.settings - 1) table.settings);
      speeds = stretch_of card table.speeds;
    }
