-- What the reader and the writer of records check, in the paper's order, and promise.
-- Assumes nothing.
use Rattle.std.specs.Prelude.{ℕ, ◌≡◌, Bool, true, false, cond, not, ◌&&◌, ◌||◌, List, [], ◌∷◌, ◌++◌, eqb, ltb, length, get_or, drop, Result}
use Rattle.refusal.specs.declared.Refusal.{Refusal}
use Rattle.refusal.specs.Answers.{tells_amount}
use Rattle.refusal.specs.Checks.{Check, first, told, left, room_checks}
use Rattle.pages.specs.declared.Layout.{Layout}
use Rattle.pages.specs.Sheets.{goes_with}
use Rattle.pages.specs.Cards.{chip_of, when_known, unknown, no_table, layout_of}
use Rattle.curves.specs.declared.Plan.{Plan}
use Rattle.plans.specs.Promises.{order_checks, plan_checks}
use Rattle.records.specs.declared.Found.{Found}
use Rattle.records.specs.Records.{mark_of, body_length, record_length, encoded, chip_number_in, table_number_in, body_in, no_plan, plan_of, plan_in}

-- refusal 1: "a plan record has fewer than 4 bytes left"
abbrev pub header_cut_short : List ℕ → Bool
header_cut_short bytes = ltb (length bytes) 4

-- refusal 2: "its mark is not 43h 50h"; "2 admits both marks"
abbrev pub wrong_mark : List ℕ → Bool
wrong_mark bytes = not (eqb (get_or bytes 0 0) 0x43 && (eqb (get_or bytes 1 0) (mark_of false) || eqb (get_or bytes 1 0) (mark_of true)))

-- refusal 16: "a mark that doesn't go with the chip" ..
abbrev pub other_mark : ℕ → ℕ → ℕ → Bool
other_mark mark chip table = when_known (chip_of chip) (λ c. not (eqb mark (mark_of (layout_of c table).counted))) false

-- .. "then, if the count byte is there, .. a point count that doesn't"
abbrev pub count_out : Layout → List ℕ → Bool
count_out layout bytes = ltb 0 (length bytes) && not (goes_with layout (get_or bytes 0 0))

abbrev pub other_count : ℕ → ℕ → List ℕ → Bool
other_count chip table bytes = when_known (chip_of chip) (λ c. count_out (layout_of c table) bytes) false

-- refusal 5: "the record's body is cut short", or its count byte is missing
abbrev pub body_cut_short : ℕ → List ℕ → Bool
body_cut_short chip bytes = when_known (chip_of chip) (λ c. ltb (length bytes) (body_length c)) false

-- a plan that comes as a chip, a table and a body is a record without its mark: 3, 4, ..
abbrev pub table_checks : ℕ → ℕ → List Check
table_checks chip table = (unknown chip, 3) ∷ (no_table chip table, 4) ∷ []

-- .. 16 "straight after 4", 5 ..
abbrev pub fill_checks : ℕ → ℕ → List ℕ → List Check
fill_checks chip table bytes = (other_count chip table bytes, 16) ∷ (body_cut_short chip bytes, 5) ∷ []

abbrev pub body_checks : ℕ → ℕ → List ℕ → List Check
body_checks chip table bytes = table_checks chip table ++ fill_checks chip table bytes

-- .. then 6, 7
abbrev pub body_plan_checks : ℕ → ℕ → List ℕ → List Check
body_plan_checks chip table bytes = body_checks chip table bytes ++ order_checks (plan_of chip table bytes)

-- "Checks run in this order": 1 to 7, with 16 "straight after 4", of the mark and then of the count
abbrev pub record_checks : List ℕ → List Check
record_checks bytes =
    let chip = chip_number_in bytes in
    let table = table_number_in bytes in
    (header_cut_short bytes, 1) ∷ (wrong_mark bytes, 2)
    ∷ (table_checks chip table
    ++ ((other_mark (get_or bytes 1 0) chip table, 16) ∷ (fill_checks chip table (body_in bytes) ++ order_checks (plan_in bytes))))

-- "Writing a plan record .. checks the plan by 3, 4, 6, 7 and then 9", with 16 "straight after 4"
abbrev pub write_checks : Plan → List ℕ → List Check
write_checks plan out = plan_checks plan ++ room_checks (length (encoded plan)) out

-- what `records::plan_from` promises: the plan, and how many of the bytes are its body, its point count with it. They are only read, so they are what
-- they were.
pub record TakesBody (chip table : ℕ) (bytes : List ℕ) (r : Found) : Type 0 where
  pub answer : tells_amount r.answer ≡ told (body_checks chip table bytes) (when_known (chip_of chip) body_length 0)
  pub plan : r.plan ≡ cond (eqb (first (body_checks chip table bytes)) 0) (plan_of chip table bytes) no_plan

-- what `records::read` promises: "The reader answers the plan and the bytes used". The bytes are only read, so they are what they were.
pub record ReadsRecord (bytes : List ℕ) (r : Found) : Type 0 where
  pub answer : tells_amount r.answer ≡ told (record_checks bytes) (when_known (chip_of (chip_number_in bytes)) record_length 0)
  pub plan : r.plan ≡ cond (eqb (first (record_checks bytes)) 0) (plan_in bytes) no_plan

-- what a call that writes a plan's record promises, by its own list of checks: "An output longer than the result keeps its tail", and a refused
-- one holds what it held ..
pub record WritesRecordBy (checks : List Check) (plan : Plan) (old : List ℕ) (r : Result ℕ Refusal) (new : List ℕ) : Type 0 where
  pub answer : tells_amount r ≡ told checks (length (encoded plan))
  pub bytes : new ≡ left checks (encoded plan ++ drop (length (encoded plan)) old) old

-- .. and so what `records::write` promises
abbrev pub WritesRecord : Plan → List ℕ → Result ℕ Refusal → List ℕ → Type 0
WritesRecord plan old r new = WritesRecordBy (write_checks plan old) plan old r new
