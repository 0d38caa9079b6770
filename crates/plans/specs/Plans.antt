-- "Plans and what they ask": the curve that an image holds, and which plans a chip accepts.
-- Assumes nothing.
use Rattle.std.specs.Prelude.{ℕ, Bool, true, false, cond, ◌&&◌, List, [], ◌∷◌, map, Result, Ok, Err}
use Rattle.refusal.specs.declared.Refusal.{Refusal}
use Rattle.refusal.specs.declared.Refusal.TheVariants.{NoSuchChip, NoSuchTable, TemperaturesOutOfOrder, SpeedsOutOfOrder, FormNotOfChip}
use Rattle.pages.specs.declared.Chip.{Chip}
use Rattle.pages.specs.Sheets.{goes_with}
use Rattle.pages.specs.Cards.{chip_of, when_known, has_table, table_of, shape_of, layout_of, worth, fits_at}
use Rattle.curves.specs.declared.Plan.{Plan}
use Rattle.curves.specs.Planned.{Curve, planned, temperatures_in_order, speeds_in_order}

-- the curve that a table's registers hold in an image, by their writable bits
abbrev pub held : Chip → ℕ → List ℕ → Curve
held chip table image =
    record {
      settings = map (worth chip image) (table_of chip table).settings;
      speeds = map (worth chip image) (table_of chip table).speeds;
    }

-- as many values as registers, each of which its register's writable bits can hold. Where all bits are writable every byte fits.
abbrev pub holdable : Chip → List ℕ → List ℕ → Bool
holdable chip [] [] = true
holdable chip [] (v ∷ vs) = false
holdable chip (p ∷ ps) [] = false
holdable chip (p ∷ ps) (v ∷ vs) = fits_at chip p v && holdable chip ps vs

-- the curve of a plan, by the shape of its table
abbrev pub planned_for : Chip → Plan → Curve
planned_for chip plan = planned (shape_of chip plan.table) plan

-- a plan's point count goes with its table, where a record of the table carries one
unfoldable pub points_pass : Chip → Plan → Bool
points_pass chip plan = goes_with (layout_of chip plan.table) plan.points

-- a plan's temperatures are in order, and its table can hold them ..
unfoldable pub temperatures_pass : Chip → Plan → Bool
temperatures_pass chip plan =
    temperatures_in_order (shape_of chip plan.table) plan && holdable chip (table_of chip plan.table).settings (planned_for chip plan).settings

-- .. and so its duties or counts
unfoldable pub speeds_pass : Chip → Plan → Bool
speeds_pass chip plan =
    speeds_in_order (shape_of chip plan.table) plan && holdable chip (table_of chip plan.table).speeds (planned_for chip plan).speeds

-- a plan of a chip: the chip, or why it is refused ..
abbrev pub accepted_of : Chip → Plan → Result Chip Refusal
accepted_of chip plan =
    cond (has_table chip plan.table)
    (cond (points_pass chip plan)
    (cond (temperatures_pass chip plan)
    (cond (speeds_pass chip plan) (Ok chip) (Err SpeedsOutOfOrder))
    (Err TemperaturesOutOfOrder))
    (Err FormNotOfChip))
    (Err NoSuchTable)

-- .. and of any chip number
abbrev pub accepted : Plan → Result Chip Refusal
accepted plan = when_known (chip_of plan.chip) (λ c. accepted_of c plan) (Err NoSuchChip)
