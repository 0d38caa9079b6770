-- "Plan record and script": what a plan's record is, and what plan stands in one.
-- Assumes nothing.
use Rattle.std.specs.Prelude.{ℕ, ◌+◌, Bool, cond, List, [], ◌∷◌, ◌++◌, get_or, drop}
use Rattle.pages.specs.declared.Chip.{Chip}
use Rattle.pages.specs.declared.Layout.{Layout}
use Rattle.pages.specs.Cards.{chip_of, when_known, shape_of, layout_of}
use Rattle.curves.specs.declared.Plan.{Plan}
use Rattle.curves.specs.Values.{no_slope, no_steps}
use Rattle.bodies.specs.Bodies.{body_of, decoded, own_of}

-- the mark's second byte: "a two-byte mark 43h 50h before each plan"; where the record carries a point count, "mark 43h 51h"
abbrev pub mark_of : Bool → ℕ
mark_of counted = cond counted 0x51 0x50

-- the mark, "chip, table"
abbrev pub header : Bool → ℕ → ℕ → List ℕ
header counted chip table = 0x43 ∷ mark_of counted ∷ chip ∷ table ∷ []

-- then "a point count", where the record carries one
abbrev pub counting : Bool → ℕ → List ℕ
counting counted points = cond counted (points ∷ []) []

-- how many bytes stand behind the header: the point count, where there is one, and one for each register of the table
abbrev pub body_size : Layout → ℕ
body_size layout = cond layout.counted 1 0 + (layout.settings + layout.speeds)

-- "9 bytes for chip 1, 14 for chip 2": a chip's tables are alike
abbrev pub body_length : Chip → ℕ
body_length chip = body_size (layout_of chip 1)

-- "the bytes used, 13 or 18"
abbrev pub record_length : Chip → ℕ
record_length chip = 4 + body_length chip

-- "then the body in the register order"
abbrev pub body_by : Layout → Plan → List ℕ
body_by layout plan = counting layout.counted plan.points ++ body_of layout.leading layout.shape plan

abbrev pub record_body : Chip → Plan → List ℕ
record_body chip plan = body_by (layout_of chip plan.table) plan

-- a plan's record
abbrev pub record_of : Chip → Plan → List ℕ
record_of chip plan = header (layout_of chip plan.table).counted plan.chip plan.table ++ record_body chip plan

abbrev pub encoded : Plan → List ℕ
encoded plan = when_known (chip_of plan.chip) (λ chip. record_of chip plan) []

-- the chip's number, the table's number and the body in a record's bytes
abbrev pub chip_number_in : List ℕ → ℕ
chip_number_in bytes = get_or bytes 2 0

abbrev pub table_number_in : List ℕ → ℕ
table_number_in bytes = get_or bytes 3 0

abbrev pub body_in : List ℕ → List ℕ
body_in bytes = drop 4 bytes

-- "zero in every other part of the answer"
abbrev pub no_plan : Plan
no_plan = record { chip = 0; table = 0; points = 0; slope = no_slope; steps = no_steps }

-- the plan of a chip, a table and the bytes behind a header; what stands behind the body does not matter, and a plan whose record carries no point
-- count has none
abbrev pub plan_by : Layout → ℕ → ℕ → List ℕ → Plan
plan_by layout chip table bytes =
    cond layout.counted (decoded layout.leading layout.shape chip table (get_or bytes 0 0) (drop 1 bytes))
    (decoded layout.leading layout.shape chip table 0 bytes)

abbrev pub plan_of : ℕ → ℕ → List ℕ → Plan
plan_of chip table bytes = when_known (chip_of chip) (λ c. plan_by (layout_of c table) chip table bytes) no_plan

-- the plan in a record's bytes
abbrev pub plan_in : List ℕ → Plan
plan_in bytes = plan_of (chip_number_in bytes) (table_number_in bytes) (body_in bytes)

-- "those of the other chip are zero in what is read": what comes back of a plan
abbrev pub own : Plan → Plan
own plan =
    when_known (chip_of plan.chip)
    (λ chip. own_of (shape_of chip plan.table) (cond (layout_of chip plan.table).counted plan.points 0) plan)
    no_plan
