-- The contracts of the parts of `records`.
-- Assumes nothing.
use Rattle.std.specs.Prelude.{ℕ, ◌≤◌, ◌≡◌, false, cond, List, [], ◌∷◌, ◌++◌, eqb, ltb, length, drop, Result, Ok, Err}
use Rattle.refusal.specs.declared.Refusal.{Refusal}
use Rattle.refusal.specs.declared.Refusal.TheVariants.{NoSuchChip, NoSuchTable}
use Rattle.refusal.specs.Answers.{tells_amount}
use Rattle.refusal.specs.Checks.{Check, first, told, left, room_checks}
use Rattle.pages.specs.declared.Chip.{Chip}
use Rattle.pages.specs.declared.Layout.{Layout}
use Rattle.pages.specs.Cards.{chip_of, when_known, has_table, layout_of}
use Rattle.curves.specs.declared.Plan.{Plan}
use Rattle.records.specs.declared.Found.{Found}
use Rattle.records.specs.Records.{body_size, record_of, chip_number_in, table_number_in, no_plan, plan_by}
use Rattle.records.specs.Promises.{wrong_mark, count_out}

-- a refused record
pub record Refuses (refusal : Refusal) (r : Found) : Type 0 where
  pub answer : r.answer ≡ Err refusal
  pub plan : r.plan ≡ no_plan

-- how the fan table of a chip's number is laid out, or why there is none
abbrev pub looked_at : ℕ → ℕ → Result Layout Refusal
looked_at chip table =
    when_known (chip_of chip) (λ c. cond (has_table c table) (Ok (layout_of c table)) (Err NoSuchTable)) (Err NoSuchChip)

-- the checks of a body whose table is laid out so
abbrev pub fill_by : Layout → List ℕ → List Check
fill_by layout bytes = (count_out layout bytes, 16) ∷ (ltb (length bytes) (body_size layout), 5) ∷ []

-- the plan in it, and how many of the bytes it takes
pub record TakesBy (layout : Layout) (chip table : ℕ) (bytes : List ℕ) (r : Found) : Type 0 where
  pub answer : tells_amount r.answer ≡ told (fill_by layout bytes) (body_size layout)
  pub plan : r.plan ≡ cond (eqb (first (fill_by layout bytes)) 0) (plan_by layout chip table bytes) no_plan

-- bytes with a header, an admitted mark, and a chip that has the table, which is laid out so
pub record Headed (layout : Layout) (bytes : List ℕ) : Type 0 where
  pub long : 4 ≤ length bytes
  pub mark : wrong_mark bytes ≡ false
  pub laid : Ok layout ≡ looked_at (chip_number_in bytes) (table_number_in bytes)

-- the record of a chip's plan at the front of a buffer, or nothing
pub record PutsRecord (chip : Chip) (plan : Plan) (old : List ℕ) (r : Result ℕ Refusal) (new : List ℕ) : Type 0 where
  pub answer : tells_amount r ≡ told (room_checks (length (record_of chip plan)) old) (length (record_of chip plan))
  pub bytes : new ≡ left (room_checks (length (record_of chip plan)) old) (record_of chip plan ++ drop (length (record_of chip plan)) old) old
