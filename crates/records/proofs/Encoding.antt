-- A plan's record has as many bytes as the paper says, and what comes back of a plan is judged as the plan is.
-- Assumes nothing.
use Rattle.std.specs.Prelude.{Option, Some, None}
use Prim.Native.Nat.{ℕ, ◌+◌, ◌≤◌}
use native.Mathlib.Omega.{arith}
use mathlib.Core.Path.{◌≡◌, refl, sym, ap, ap₂, ◌∙◌, subst}
use mathlib.Core.Bool.{Bool, true, false, cond, ◌&&◌}
use mathlib.Core.List.{List, []}
use lib.Dec.{eqb}
use lib.ListN.{length, get_or, take, length-append}
use Rattle.refusal.specs.Checks.{first}
use Rattle.pages.specs.declared.Chip.{Chip}
use Rattle.pages.specs.declared.Chip.TheVariants.{Nct7802y, F75373s, Nct7904d, W83793g}
use Rattle.pages.specs.declared.Shape.{Shape}
use Rattle.pages.specs.declared.Shape.TheVariants.{Slope, Steps}
use Rattle.pages.specs.declared.Layout.{Layout}
use Rattle.pages.specs.Rows.{column}
use Rattle.pages.specs.Sheets.{longest, room, goes_with}
use Rattle.pages.specs.Cards.{sheet_of, chip_of, when_known, has_table, table_of, shape_of, layout_of}
use Rattle.pages.proofs.Tables.{table_laid, table_sized, table_short, table_pointed}
use Rattle.curves.specs.declared.Plan.{Plan}
use Rattle.curves.specs.Planned.{planned, temperatures_in_order, speeds_in_order}
use Rattle.curves.specs.Values.{Sized}
use Rattle.curves.proofs.Filled.{Roomy, roomy}
use Rattle.bodies.specs.Bodies.{body_of, own_of}
use Rattle.bodies.proofs.Laws.{body_length_is, column_begins, own_chip, own_table, own_points, own_curve, own_temperatures, own_speeds}
use Rattle.plans.specs.Plans.{holdable, points_pass, temperatures_pass, speeds_pass}
use Rattle.plans.specs.Promises.{plan_checks}
use Rattle.records.specs.Records.{counting, body_size, body_length, record_length, record_body, record_of, encoded}

-- "9 bytes for chip 1, 14 for chip 2", 9 for chip 4, and 16 for chip 5, the point count with them
pub body_lengths : (body_length Nct7802y ≡ 9) × (body_length F75373s ≡ 14) × (body_length Nct7904d ≡ 9) × (body_length W83793g ≡ 16)
unfolding sheet_of
body_lengths = (refl, refl, refl, refl)

-- "the bytes used, 13 or 18", and 20
pub record_lengths : (record_length Nct7802y ≡ 13) × (record_length F75373s ≡ 18) × (record_length Nct7904d ≡ 13) × (record_length W83793g ≡ 20)
unfolding sheet_of
record_lengths = (refl, refl, refl, refl)

-- as many as each of the chip's tables asks for
pub body_of_table : (chip : Chip) (table : ℕ) → has_table chip table ≡ true → body_size (layout_of chip table) ≡ body_length chip
body_of_table chip table has = ap body_size (table_laid chip table has)

-- a plan has room for the points of every table
pub table_roomy : (chip : Chip) (table : ℕ) → Roomy (shape_of chip table)
table_roomy chip table = roomy (shape_of chip table) (table_pointed chip table)

-- as many bytes behind the point count as its curve has
pub body_of_shape : (chip : Chip) (table : ℕ) → has_table chip table ≡ true
    → (room (shape_of chip table)).0 + (room (shape_of chip table)).1 ≡ (layout_of chip table).settings + (layout_of chip table).speeds
body_of_shape chip table has =
    let long = table_sized chip table has in
    sym (ap₂ (λ (m n : ℕ). m + n) long.0 long.1)

pub count_length : (counted : Bool) (points : ℕ) → length (counting counted points) ≡ cond counted 1 0
count_length true points = refl
count_length false points = refl

pub count_short : (counted : Bool) → cond counted 1 0 ≤ 1
count_short true = omega arith
count_short false = omega arith

pub body_of_plan : (chip : Chip) (plan : Plan) → Sized plan → has_table chip plan.table ≡ true
    → length (record_body chip plan) ≡ body_length chip
body_of_plan chip plan S has =
    let l = layout_of chip plan.table in
    omega (
      arith,
      length-append (counting l.counted plan.points) (body_of l.leading l.shape plan),
      count_length l.counted plan.points,
      body_length_is l.leading l.shape plan S (table_roomy chip plan.table),
      body_of_shape chip plan.table has,
      body_of_table chip plan.table has,
    )

-- and a plan's record has as many as are used of it
pub record_of_plan : (chip : Chip) (plan : Plan) → Sized plan → has_table chip plan.table ≡ true → length (record_of chip plan) ≡ record_length chip
record_of_plan chip plan S has = omega (arith, body_of_plan chip plan S has)

-- so none has more than a header, a point count and the longest body
pub length_short : (chip : Chip) → record_length chip ≤ 5 + longest
length_short chip =
    let first-table = table_of chip 1 in
    omega (
      arith,
      count_short (layout_of chip 1).counted,
      table_short chip 1,
      length-append first-table.settings first-table.speeds,
    )

-- no table has more registers
pub registers_short : (chip : Chip) (table : ℕ) → (layout_of chip table).settings + (layout_of chip table).speeds ≤ longest
registers_short chip table =
    let t = table_of chip table in
    omega (arith, table_short chip table, length-append t.settings t.speeds)

pub laid_short : (chip : Chip) (table : ℕ) (l : Layout) → l ≡ layout_of chip table → l.settings + l.speeds ≤ longest
laid_short chip table l e = subst (λ (k : Layout). k.settings + k.speeds ≤ longest) (sym e) (registers_short chip table)

room_short : (shape : Shape) → Roomy shape → (room shape).0 + (room shape).1 ≤ longest
room_short (Slope points full) p = omega (arith, p)
room_short Steps p = omega arith

pub record_short : (plan : Plan) → Sized plan → length (encoded plan) ≤ 5 + longest
record_short plan S = by_name (chip_of plan.chip)
  where
    by_name : (named : Option Chip) → length (when_known named (λ chip. record_of chip plan) []) ≤ 5 + longest
    by_name (Some chip) =
        let l = layout_of chip plan.table in
        let fits = table_roomy chip plan.table in
        omega (
          arith,
          length-append (counting l.counted plan.points) (body_of l.leading l.shape plan),
          count_length l.counted plan.points,
          count_short l.counted,
          body_length_is l.leading l.shape plan S fits,
          room_short l.shape fits,
        )
    by_name None = omega arith

-- a plan's body begins its bytes with zeros behind them, and is one byte for each register of its table
pub body_begins : (chip : Chip) (plan : Plan) → Sized plan → has_table chip plan.table ≡ true
    → (let l = layout_of chip plan.table in
    take (l.settings + l.speeds) (column longest (λ k. get_or (body_of l.leading l.shape plan) k 0)) ≡ body_of l.leading l.shape plan)
body_begins chip plan S has =
    let l = layout_of chip plan.table in
    let values = body_of l.leading l.shape plan in
    let fits = table_roomy chip plan.table in
    let size = body_length_is l.leading l.shape plan S fits in
    ap (λ (n : ℕ). take n (column longest (λ k. get_or values k 0))) (sym (size ∙ body_of_shape chip plan.table has))
    ∙ column_begins values longest (omega (arith, size, room_short l.shape fits))

-- a point count that no record carries goes with every table
own_goes : (counted : Bool) (points n : ℕ) → cond counted (eqb (cond counted points 0) n) true ≡ cond counted (eqb points n) true
own_goes true points n = refl
own_goes false points n = refl

pub goes_own : (l : Layout) (points : ℕ) → goes_with l (cond l.counted points 0) ≡ goes_with l points
goes_own l points = own_goes l.counted points l.speeds

-- what comes back of a plan is judged as the plan is
module _ (chip : Chip) (plan : Plan) (S : Sized plan) where
  abbrev shape : Shape
  shape = shape_of chip plan.table

  abbrev count : ℕ
  count = cond (layout_of chip plan.table).counted plan.points 0

  abbrev back : Plan
  back = own_of shape count plan

  fits : Roomy shape
  fits = table_roomy chip plan.table

  points_judged : points_pass chip back ≡ points_pass chip plan
  unfolding points_pass
  points_judged =
      ap₂ (λ (t n : ℕ). goes_with (layout_of chip t) n) (own_table shape count plan) (own_points shape count plan)
      ∙ goes_own (layout_of chip plan.table) plan.points

  temperatures_judged : temperatures_pass chip back ≡ temperatures_pass chip plan
  unfolding temperatures_pass
  temperatures_judged =
      ap (λ (t : ℕ). temperatures_in_order (shape_of chip t) back && holdable chip (table_of chip t).settings (planned (shape_of chip t) back).settings)
      (own_table shape count plan)
      ∙ ap₂ (λ (order : Bool) (values : List ℕ). order && holdable chip (table_of chip plan.table).settings values)
      (own_temperatures shape count plan S fits) (λ i. (own_curve shape count plan S fits i).settings)

  speeds_judged : speeds_pass chip back ≡ speeds_pass chip plan
  unfolding speeds_pass
  speeds_judged =
      ap (λ (t : ℕ). speeds_in_order (shape_of chip t) back && holdable chip (table_of chip t).speeds (planned (shape_of chip t) back).speeds)
      (own_table shape count plan)
      ∙ ap₂ (λ (order : Bool) (values : List ℕ). order && holdable chip (table_of chip plan.table).speeds values)
      (own_speeds shape count plan S fits) (λ i. (own_curve shape count plan S fits i).speeds)

  pub own_judged : chip_of plan.chip ≡ Some chip → first (plan_checks back) ≡ first (plan_checks plan)
  own_judged e = rw (own_chip shape count plan, own_table shape count plan, e, points_judged, temperatures_judged, speeds_judged)
