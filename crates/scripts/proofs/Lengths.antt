-- A script has as many writes as the paper says: one for each speed, then one for each register.
-- Assumes nothing.
use Rattle.std.specs.Prelude.{Ok, Some}
use Prim.Native.Nat.{ℕ, ◌*◌, ◌≤◌}
use native.Mathlib.Nat.{not-suc-le-zero}
use native.Mathlib.Omega.{arith}
use mathlib.Core.Path.{◌≡◌, refl, sym, ap, ◌∙◌}
use mathlib.Core.Bool.{So}
use mathlib.Core.List.{List, [], ◌∷◌, ◌++◌, map}
use borrow.Author.Tests.{leb-true, not-false}
use lib.Dec.{leb}
use lib.ListN.{length, length-append, length-map}
use Rattle.refusal.specs.Checks.{first}
use Rattle.refusal.proofs.Passed.{all_passed, when_passed}
use Rattle.pages.specs.declared.Chip.{Chip}
use Rattle.pages.specs.declared.Chip.TheVariants.{Nct7802y, F75373s, Nct7904d, W83793g}
use Rattle.pages.specs.declared.Shape.{Shape}
use Rattle.pages.specs.declared.Shape.TheVariants.{Slope, Steps}
use Rattle.pages.specs.Banks.{no_bank}
use Rattle.pages.specs.Rows.{Table}
use Rattle.pages.specs.Sheets.{most_points, longest, room}
use Rattle.pages.specs.Cards.{sheet_of, chip_of, banks_of, has_table, table_of, shape_of, layout_of}
use Rattle.pages.proofs.Every.{both}
use Rattle.pages.proofs.Sound.{counts}
use Rattle.pages.proofs.Selectors.{selects_most}
use Rattle.pages.proofs.Tables.{table_pointed, table_laid, table_short, table_sized}
use Rattle.curves.specs.declared.Plan.{Plan}
use Rattle.curves.specs.Orders.{fulls}
use Rattle.curves.specs.Planned.{Curve, full_of}
use Rattle.curves.specs.Values.{Sized}
use Rattle.plans.specs.Plans.{planned_for}
use Rattle.scripts.specs.Scripts.{writes, script, placements, script_of, writes_in, script_length, script_for}
use Rattle.scripts.specs.Promises.{script_checks, Scripts}
use Rattle.scripts.proofs.Bus.{bus_length}
use Rattle.scripts.proofs.Prepared.{load_writes}

room_some : (shape : Shape) → So (counts shape) → 1 ≤ (room shape).1
room_some (Slope points full) t = omega (arith, leb-true 2 points (both (leb 2 points) (leb points most_points) t).0)
room_some Steps t = omega arith

-- "13 writes", "24 writes"; of chip 4 one more than of chip 1: its script "goes as chip 1's, but selects a bank before the first write"; and of chip 5
-- seven points and three selects, "critical may lie in another bank than the points"
pub script_lengths : (script_length Nct7802y ≡ 13) × (script_length F75373s ≡ 24) × (script_length Nct7904d ≡ 14) × (script_length W83793g ≡ 25)
unfolding sheet_of
script_lengths = (refl, refl, refl, refl)

-- as many as a plan's script has, by its table ..
pub script_of_table : (chip : Chip) (plan : Plan) → Sized plan → length (script_of chip plan) ≡ writes_in (layout_of chip plan.table)
script_of_table chip plan sized = sym (load_writes chip plan sized)

-- .. and so by its chip
pub script_of_plan : (chip : Chip) (plan : Plan) → Sized plan → So (has_table chip plan.table) → length (script_of chip plan) ≡ script_length chip
script_of_plan chip plan sized has = script_of_table chip plan sized ∙ ap writes_in (table_laid chip plan.table has)

-- a table with a speed has a write
some_writes : (full : ℕ) (table : Table) (curve : Curve) → 1 ≤ length table.speeds → 1 ≤ length (script full table curve)
some_writes full table curve = by_speeds table.speeds
  where
    by_speeds : (speeds : List ℕ) → 1 ≤ length speeds
        → 1 ≤ length (writes speeds (fulls full speeds) ++ (writes table.settings curve.settings ++ writes speeds curve.speeds))
    by_speeds [] h = absurd (not-suc-le-zero h)
    by_speeds (p ∷ ps) h = omega arith

-- so no script of a table that the chip has is empty
pub script_some : (chip : Chip) (plan : Plan) → So (has_table chip plan.table) → 1 ≤ length (script_of chip plan)
unfolding placements
script_some chip plan has =
    let table = table_of chip plan.table in
    let curve = planned_for chip plan in
    let full = full_of (shape_of chip plan.table) in
    let speeds : 1 ≤ length table.speeds = omega (arith, (table_sized chip plan.table has).1, room_some (shape_of chip plan.table) (table_pointed chip plan.table)) in
    omega (arith, bus_length chip (placements chip plan), some_writes full table curve speeds)

-- "The answer says how many writes."
pub script_counts : {plan : Plan} {out new : List ℕ} {n : ℕ} (chip : Chip) → chip_of plan.chip ≡ Some chip → Sized plan
    → Scripts plan out (Ok n) new → n ≡ script_length chip
script_counts {plan} {out} {new} {n} chip e sized p =
    let none : first (script_checks plan out) ≡ 0 = sym (ap (λ (t : ℕ × ℕ). t.0) p.answer) in
    let has = not-false (has_table chip plan.table) (rw e at (all_passed (script_checks plan out) refl none).1.0) in
    let all : n ≡ length (script_for plan) = ap (λ (t : ℕ × ℕ). t.1) p.answer ∙ sym (when_passed (length (script_for plan)) 0 none) in
    (rw e at all) ∙ script_of_plan chip plan sized has

-- as many writes as registers, at most
writes_short : (registers bytes : List ℕ) → length (writes registers bytes) ≤ length registers
writes_short [] bytes = omega arith
writes_short (r ∷ rs) [] = omega arith
writes_short (r ∷ rs) (b ∷ bs) = omega (arith, writes_short rs bs)

placements_short : (chip : Chip) (plan : Plan) → length (placements chip plan) ≤ 2 * longest
unfolding placements
placements_short chip plan =
    let settings = (table_of chip plan.table).settings in
    let speeds = (table_of chip plan.table).speeds in
    let full = fulls (full_of (shape_of chip plan.table)) speeds in
    let curve = planned_for chip plan in
    omega (
      arith,
      length-append (writes speeds full) (writes settings curve.settings ++ writes speeds curve.speeds),
      length-append (writes settings curve.settings) (writes speeds curve.speeds),
      writes_short speeds full,
      writes_short settings curve.settings,
      writes_short speeds curve.speeds,
      table_short chip plan.table,
      length-append settings speeds,
    )

-- so no script has more than twice as many, whatever its plan holds: a select for each at the most
pub script_short : (chip : Chip) (plan : Plan) → length (script_of chip plan) ≤ 4 * longest
script_short chip plan =
    omega (
      arith,
      placements_short chip plan,
      bus_length chip (placements chip plan),
      selects_most (banks_of chip) no_bank (map (λ w. w.0) (placements chip plan)),
      length-map (placements chip plan) (λ w. w.0),
    )
