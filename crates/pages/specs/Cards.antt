-- "The three parts and who decides": the chips, their numbers and their cards.
-- Assumes nothing.
use Rattle.std.specs.Prelude.{ℕ, Bool, true, false, cond, not, List, [], ◌∷◌, eqb, length, get_or, Option, Some, None, Result, Ok, Err}
use Rattle.std.specs.Int.Bits.{bit_and}
use Rattle.refusal.specs.declared.Refusal.{Refusal}
use Rattle.refusal.specs.declared.Refusal.TheVariants.{NoSuchChip}
use Rattle.refusal.specs.Refusals.{number_of}
use Rattle.pages.specs.declared.Chip.{Chip}
use Rattle.pages.specs.declared.Chip.TheVariants.{Nct7802y, F75373s, Nct80, Nct7904d, W83793g}
use Rattle.pages.specs.declared.Effects.{Effects}
use Rattle.pages.specs.declared.Shape.{Shape}
use Rattle.pages.specs.declared.Layout.{Layout}
use Rattle.pages.specs.declared.Ground.{Ground}
use Rattle.pages.specs.Banks.{Banks, one_bank, among}
use Rattle.pages.specs.Rows.{Line, Row, Table, row_in, effects_in}
use Rattle.pages.specs.Sheets.{Sheet, power_on_in, missing, has_table_in, table_in, layout, ground_in}
use Rattle.pages.specs.Nct7802y as nct7802y
use Rattle.pages.specs.F75373s as f75373s
use Rattle.pages.specs.Nct80 as nct80
use Rattle.pages.specs.Nct7904d as nct7904d
use Rattle.pages.specs.W83793g as w83793g

-- The page of each chip. Beside the list of chips it is all that goes by the chip: everything else is read off a page.
unfoldable pub sheet_of : Chip → Sheet
sheet_of Nct7802y = nct7802y.sheet
sheet_of F75373s = f75373s.sheet
sheet_of Nct80 = nct80.sheet
sheet_of Nct7904d = nct7904d.sheet
sheet_of W83793g = w83793g.sheet

abbrev pub chips : List Chip
chips = Nct7802y ∷ F75373s ∷ Nct80 ∷ Nct7904d ∷ W83793g ∷ []

-- what the named chip gives, or what stands in where none is named
abbrev pub when_known : {A : Type 0} → Option Chip → (Chip → A) → A → A
when_known (Some chip) f none = f chip
when_known None f none = none

abbrev pub chip_number : Chip → ℕ
chip_number chip = (sheet_of chip).number

-- the chip of that number among some
abbrev pub chip_among : List Chip → ℕ → Option Chip
chip_among [] number = None
chip_among (c ∷ cs) number = cond (eqb number (chip_number c)) (Some c) (chip_among cs number)

abbrev pub chip_of : ℕ → Option Chip
chip_of number = chip_among chips number

-- the chip that a number names, or why it names none
abbrev pub named : ℕ → Result Chip Refusal
named number = when_known (chip_of number) Ok (Err NoSuchChip)

-- "Where the answer is an enum, there is a definition that gives this paper's number and values for each of its cases": 0 and the chip's number, or the
-- refusal's number
abbrev pub tells_named : Result Chip Refusal → ℕ × ℕ
tells_named (Ok chip) = (0, chip_number chip)
tells_named (Err r) = (number_of r, 0)

-- refusal 3: "the chip number is not 1, 2 or 3", and "3 admits chip 4", "2 admits both marks, 3 chip 5"
abbrev pub unknown : ℕ → Bool
unknown number = when_known (chip_of number) (λ chip. false) true

abbrev pub card_of : Chip → List Line
card_of chip = (sheet_of chip).card

abbrev pub banks_of : Chip → Banks
banks_of chip = (sheet_of chip).banks

unfoldable pub row_of : Chip → ℕ → Row
row_of chip position = row_in (card_of chip) position

-- the bits of a register that do more than stand there
unfoldable pub effects_of : Chip → ℕ → Effects
effects_of chip position = effects_in (sheet_of chip).effects position

-- whether a position is that of a status register
unfoldable pub is_status : Chip → ℕ → Bool
is_status chip position = among (sheet_of chip).status position

-- "a table value is its register's writable bits, all other bits counting as zero"
abbrev pub worth : Chip → List ℕ → ℕ → ℕ
worth chip image position = bit_and (get_or image position 0) (row_of chip position).writable

-- whether the register at a position can hold a value: it has no bit that may not be written
abbrev pub fits_at : Chip → ℕ → ℕ → Bool
fits_at chip position value = eqb (bit_and value (row_of chip position).writable) value

abbrev pub power_on : Chip → List ℕ
power_on chip = power_on_in (sheet_of chip)

-- refusal 4 goes by these: "chip 1: 1 to 3; chip 2: 1 and 2; chip 3: none", and "4 counts its tables" of chip 4; of chip 5 "4, 8 and 10 follow
-- document 001"
abbrev pub tables_of : Chip → List Table
tables_of chip = (sheet_of chip).tables

abbrev pub has_table : Chip → ℕ → Bool
has_table chip number = has_table_in (tables_of chip) number

abbrev pub table_of : Chip → ℕ → Table
table_of chip number = table_in (tables_of chip) number

abbrev pub shape_of : Chip → ℕ → Shape
shape_of chip number = (table_of chip number).shape

abbrev pub layout_of : Chip → ℕ → Layout
layout_of chip number = layout (banks_of chip) (card_of chip) (table_of chip number)

abbrev pub ground_of : Chip → ℕ → Ground
ground_of chip number = ground_in (card_of chip) (table_of chip number)

-- refusal 4: "the chip has no such fan table"
abbrev pub no_table : ℕ → ℕ → Bool
no_table chip number = not (when_known (chip_of chip) (λ c. has_table c number) false)

-- the same of a fan table: 0 and its layout, or 4 and that of none
abbrev pub tells_fan : Option Layout → ℕ × Layout
tells_fan (Some facts) = (0, facts)
tells_fan None = (4, layout one_bank [] missing)

-- how many bytes a chip's image has
abbrev pub size_of : Chip → ℕ
size_of chip = (sheet_of chip).size

-- refusal 8: "a register image is not 256 bytes long"; of chip 4 "8 asks its own image length", and of chip 5 "4, 8 and 10 follow document 001". A number
-- that names no chip has been refused 3 before
abbrev pub not_of_size : ℕ → ℕ → Bool
not_of_size chip size = not (eqb size (when_known (chip_of chip) size_of 0))

abbrev pub not_an_image : ℕ → List ℕ → Bool
not_an_image chip image = not_of_size chip (length image)
