-- "Plan record and script": a plan's byte writes.
-- Assumes nothing.
use Rattle.std.specs.Prelude.{ℕ, zero, suc, ◌+◌, ◌*◌, ◌/◌, ◌%◌, cond, List, [], ◌∷◌, ◌++◌, map, get_or}
use Rattle.pages.specs.declared.Chip.{Chip}
use Rattle.pages.specs.declared.Layout.{Layout}
use Rattle.pages.specs.Banks.{Banks, no_bank, ready}
use Rattle.pages.specs.Rows.{Table}
use Rattle.pages.specs.Cards.{chip_of, when_known, banks_of, table_of, shape_of, layout_of}
use Rattle.curves.specs.declared.Plan.{Plan}
use Rattle.curves.specs.Curves.{paired}
use Rattle.curves.specs.Orders.{fulls}
use Rattle.curves.specs.Planned.{Curve, full_of}
use Rattle.plans.specs.Plans.{planned_for}

-- "A script is pairs of address and byte."
abbrev pub Pair : Type 0
Pair = ℕ × ℕ

-- a byte to each of some registers
abbrev pub writes : List ℕ → List ℕ → List Pair
writes registers bytes = paired registers bytes

-- "FL1 to FL4 to FFh, then T1 to T4, critical, then FL1 to FL4 as planned"; "each high and low byte of C1 to C5 to 00h in address order,
-- then B1 to B4, then C1 to C5, high byte first": raise every speed, move every setting, settle every speed
abbrev pub script : ℕ → Table → Curve → List Pair
script full table curve =
    writes table.speeds (fulls full table.speeds)
    ++ (writes table.settings curve.settings ++ writes table.speeds curve.speeds)

-- a plan's writes by position, which the table gives ..
unfoldable pub placements : Chip → Plan → List Pair
placements chip plan = script (full_of (shape_of chip plan.table)) (table_of chip plan.table) (planned_for chip plan)

-- .. with a select of the bank "before the first write and again wherever the next register lies in another bank": "a script writes the bank's
-- number there, all other bits zero" ..
abbrev pub routed_from : Banks → ℕ → List Pair → List Pair
routed_from banks bank [] = []
routed_from banks bank (w ∷ ws) =
    let rest = routed_from banks (w.0 / 256) ws in
    cond (ready banks.bits bank w.0) (w ∷ rest) ((banks.select, w.0 / 256) ∷ (w ∷ rest))

unfoldable pub routed : Chip → List Pair → List Pair
routed chip ws = routed_from (banks_of chip) no_bank ws

-- .. and as the bus carries them: a register's address is its place in its bank's page
abbrev pub addressed : Pair → Pair
addressed w = (w.0 % 256, w.1)

unfoldable pub bus : Chip → List Pair → List Pair
bus chip ws = map addressed (routed chip ws)

abbrev pub script_of : Chip → Plan → List Pair
script_of chip plan = bus chip (placements chip plan)

-- how many writes there are: one for each speed, then one for each register, and the selects
abbrev pub writes_in : Layout → ℕ
writes_in layout = layout.selects + (layout.speeds + (layout.settings + layout.speeds))

-- "13 writes"; "24 writes": a chip's tables are alike
abbrev pub script_length : Chip → ℕ
script_length chip = writes_in (layout_of chip 1)

-- the script's bytes, address first
abbrev pub flat : List Pair → List ℕ
flat [] = []
flat (w ∷ ws) = w.0 ∷ (w.1 ∷ flat ws)

-- the first n pairs of a script's bytes
abbrev pub pairs_in : ℕ → List ℕ → List Pair
pairs_in zero bytes = []
pairs_in (suc n) bytes = pairs_in n bytes ++ ((get_or bytes (2 * n) 0, get_or bytes (2 * n + 1) 0) ∷ [])

abbrev pub script_for : Plan → List Pair
script_for plan = when_known (chip_of plan.chip) (λ c. script_of c plan) []
