-- A plan whose values fit its registers meets what the theorem asks, whatever the shape: no register's value is faster than full.
-- Assumes nothing.
use Prim.Native.Nat.{ℕ, ◌≤◌, zero-le}
use native.Mathlib.Omega.{arith}
use mathlib.Core.Path.{◌≡◌, refl, ap, ◌∙◌}
use mathlib.Core.Bool.{So, false≢true}
use mathlib.Core.List.{List, [], ◌∷◌, ◌++◌, map}
use borrow.Author.Tests.{eqb-true}
use lib.Bits.{bit_and, and_le_r, and_self}
use lib.ListN.{get_or}
use Rattle.pages.specs.declared.Chip.{Chip}
use Rattle.pages.specs.declared.Shape.{Shape}
use Rattle.pages.specs.declared.Shape.TheVariants.{Slope, Steps}
use Rattle.pages.specs.Cards.{row_of, table_of, shape_of, worth, fits_at}
use Rattle.pages.proofs.Every.{both}
use Rattle.pages.proofs.Sound.{reaches}
use Rattle.pages.proofs.Tables.{table_reaches}
use Rattle.curves.specs.declared.Plan.{Plan}
use Rattle.curves.specs.Orders.{All, Each, fulls}
use Rattle.curves.specs.Planned.{full_of, temperatures_in_order, speeds_in_order}
use Rattle.plans.specs.Plans.{holdable, planned_for, temperatures_pass, speeds_pass}
use Rattle.plans.proofs.Laws.{Accepted}
use Rattle.scripts.specs.Scripts.{writes, placements}
use Rattle.scripts.proofs.Safe.{Fits}
use Rattle.plays.proofs.Rules.{each_long, rule_of}
use Rattle.plays.proofs.Played.{Fit, WholeWrites, whole_append, whole_writes, all_of, settings_inside, speeds_inside}

-- a value of a register whose mask is as the shape asks is none faster than full
one_slower : (shape : Shape) (mask v : ℕ) → So (reaches shape mask) → v ≤ mask → (rule_of shape).Fast (rule_of shape).full v
one_slower (Slope points full) mask v r h = omega (arith, eqb-true mask full r)
one_slower Steps mask v r h = zero-le

-- and such a register holds full whole
full_fits : (shape : Shape) (mask : ℕ) → So (reaches shape mask) → bit_and (full_of shape) mask ≡ full_of shape
full_fits (Slope points full) mask r = ap (bit_and full) (eqb-true mask full r) ∙ and_self full
full_fits Steps mask r = refl

abbrev Reaches : Chip → Shape → ℕ → Type 0
Reaches chip shape p = So (reaches shape (row_of chip p).writable)

held_slower : (chip : Chip) (shape : Shape) (image ps : List ℕ) → All (Reaches chip shape) ps
    → Each (rule_of shape).Fast (fulls (rule_of shape).full (map (worth chip image) ps)) (map (worth chip image) ps)
held_slower chip shape image [] r = tt
held_slower chip shape image (p ∷ ps) r = (
  one_slower shape (row_of chip p).writable (worth chip image p) r.0 (and_le_r (get_or image p 0) (row_of chip p).writable),
  held_slower chip shape image ps r.1,
)

fit_slower : (chip : Chip) (shape : Shape) (ps vs : List ℕ) → All (Reaches chip shape) ps → Each (Fit chip) ps vs
    → Each (rule_of shape).Fast (fulls (rule_of shape).full vs) vs
fit_slower chip shape [] [] r e = tt
fit_slower chip shape [] (v ∷ vs) r e = absurd e
fit_slower chip shape (p ∷ ps) [] r e = absurd e
fit_slower chip shape (p ∷ ps) (v ∷ vs) r e = (
  one_slower shape (row_of chip p).writable v r.0 (omega (arith, e.0, and_le_r v (row_of chip p).writable)),
  fit_slower chip shape ps vs r.1 e.1,
)

fulls_fit : (chip : Chip) (shape : Shape) (ps : List ℕ) → All (Reaches chip shape) ps → Each (Fit chip) ps (fulls (full_of shape) ps)
fulls_fit chip shape [] r = tt
fulls_fit chip shape (p ∷ ps) r = (full_fits shape (row_of chip p).writable r.0, fulls_fit chip shape ps r.1)

-- what fits, register by register
each_fit : (chip : Chip) (ps vs : List ℕ) → So (holdable chip ps vs) → Each (Fit chip) ps vs
each_fit chip [] [] t = tt
each_fit chip [] (v ∷ vs) t = absurd (false≢true t)
each_fit chip (p ∷ ps) [] t = absurd (false≢true t)
each_fit chip (p ∷ ps) (v ∷ vs) t =
    let parts = both (fits_at chip p v) (holdable chip ps vs) t in
    (eqb-true (bit_and v (row_of chip p).writable) v parts.0, each_fit chip ps vs parts.1)

module _ (chip : Chip) (plan : Plan) (accepted : Accepted chip plan) where
  abbrev shape : Shape
  shape = shape_of chip plan.table

  speeds_reach : All (Reaches chip shape) (table_of chip plan.table).speeds
  speeds_reach = all_of (Reaches chip shape) (table_of chip plan.table).speeds (table_reaches chip plan.table)

  settings_fit : Each (Fit chip) (table_of chip plan.table).settings (planned_for chip plan).settings
  unfolding temperatures_pass
  settings_fit =
      each_fit chip (table_of chip plan.table).settings (planned_for chip plan).settings
      (both (temperatures_in_order shape plan) _ accepted.temperatures).1

  speeds_fit : Each (Fit chip) (table_of chip plan.table).speeds (planned_for chip plan).speeds
  unfolding speeds_pass
  speeds_fit =
      each_fit chip (table_of chip plan.table).speeds (planned_for chip plan).speeds
      (both (speeds_in_order shape plan) _ accepted.speeds).1

  pub plan_fits_is : (old : List ℕ) → Fits (rule_of shape) (table_of chip plan.table) (worth chip old) (planned_for chip plan)
  plan_fits_is old =
      record {
        settings = each_long (Fit chip) (table_of chip plan.table).settings (planned_for chip plan).settings settings_fit;
        speeds = each_long (Fit chip) (table_of chip plan.table).speeds (planned_for chip plan).speeds speeds_fit;
        first_full = held_slower chip shape old (table_of chip plan.table).speeds speeds_reach;
        plan_full = fit_slower chip shape (table_of chip plan.table).speeds (planned_for chip plan).speeds speeds_reach speeds_fit;
      }

  -- each write of its script is taken whole
  pub script_whole : WholeWrites chip (placements chip plan)
  unfolding placements
  script_whole =
      let settings = (table_of chip plan.table).settings in
      let speeds = (table_of chip plan.table).speeds in
      let curve = planned_for chip plan in
      whole_append chip (writes speeds (fulls (full_of shape) speeds)) (writes settings curve.settings ++ writes speeds curve.speeds)
      (whole_writes chip speeds (fulls (full_of shape) speeds) (speeds_inside chip plan.table) (fulls_fit chip shape speeds speeds_reach))
      (whole_append chip (writes settings curve.settings) (writes speeds curve.speeds)
      (whole_writes chip settings curve.settings (settings_inside chip plan.table) settings_fit)
      (whole_writes chip speeds curve.speeds (speeds_inside chip plan.table) speeds_fit))
