-- `plans::accept` meets its contract: each answer knows how the tests before it ended.
-- Assumes nothing.
use Prim.Native.Nat.{◌+◌}
use native.Mathlib.Omega.{arith}
use mathlib.Core.Path.{◌≡◌, sym, ap, ap₂, ◌∙◌}
use mathlib.Core.Bool.{Bool, So, ◌&&◌}
use lib.ListN.{length-append}
use Rattle.pages.specs.declared.Chip.{Chip}
use Rattle.pages.specs.declared.Layout.{Layout}
use Rattle.pages.specs.Sheets.{goes_with}
use Rattle.pages.specs.Cards.{has_table, table_of, layout_of}
use Rattle.pages.proofs.Tables.{table_short}
use Rattle.curves.specs.declared.Plan.{Plan}
use Rattle.curves.specs.Planned.{temperatures_in_order, speeds_in_order}
use Rattle.curves.specs.Values.{Typed}
use Rattle.curves.proofs.Owned.{plan_typed}
use Rattle.plans.specs.declared.tables.Fitting.{Fitting}
use Rattle.plans.specs.Parts.{fitting_of}
use Rattle.plans.specs.Plans.{points_pass, temperatures_pass, speeds_pass}
use Rattle.plans.proofs.Looked.{chip_found, table_found}
use Rattle.plans.proofs.Fits.{temperatures_pass_is, speeds_pass_is}
use Rattle.plans.proofs.accept.Goals as goal

-- what is asked of a plan's points, and of its values, by the layout of its table
points : (chip : Chip) (plan : Plan) {l : Layout} {r s : Bool} → l ≡ layout_of chip plan.table → r ≡ goes_with l plan.points → r ≡ s
    → points_pass chip plan ≡ s
unfolding points_pass
points chip plan e p t = sym (p ∙ ap (λ (k : Layout). goes_with k plan.points) e) ∙ t

module _ (chip : Chip) (plan : Plan) {l : Layout} {f : Fitting} {r s : Bool} (typed : Typed plan)
    (found : So (has_table chip plan.table) × (l ≡ layout_of chip plan.table)) (fits : f ≡ fitting_of chip plan l) where
  temperatures : r ≡ temperatures_in_order l.shape plan → (r && f.settings) ≡ s → temperatures_pass chip plan ≡ s
  temperatures p t = sym (ap₂ ◌&&◌ p (ap (λ (g : Fitting). g.settings) fits) ∙ temperatures_pass_is chip plan typed found.0 l found.1) ∙ t

  speeds : r ≡ speeds_in_order l.shape plan → (r && f.speeds) ≡ s → speeds_pass chip plan ≡ s
  speeds p t = sym (ap₂ ◌&&◌ p (ap (λ (g : Fitting). g.speeds) fits) ∙ speeds_pass_is chip plan typed found.0 l found.1) ∙ t

pub returns-then-not-goes_with : goal.returns-then-not-goes_with
returns-then-not-goes_with c =
    let found = table_found c.table_of.ensures c.in_ok-layout.ensures.value in
    record { answer = rw (chip_found c.in_ok-chip.ensures, found.0, points c.in_ok-chip.chip c.args.plan found.1 c.goes_with.ensures.answer c.if-not-goes_with.true) }

pub fit-fitting-requires : goal.fit-fitting-requires
fit-fitting-requires c =
    let a = c.args in
    let t = table_of c.in_ok-chip.chip a.plan.table in
    let found = table_found c.table_of.ensures c.in_ok-layout.ensures.value in
    omega (
      arith,
      ap (λ (l : Layout). l.settings + l.speeds) found.1,
      table_short c.in_ok-chip.chip a.plan.table,
      length-append t.settings t.speeds,
    )

pub returns-then-not-temperatures_in_order-fitting : goal.returns-then-not-temperatures_in_order-fitting
returns-then-not-temperatures_in_order-fitting c =
    let a = c.args in
    let typed = plan_typed a.plan _ c.well_formed.0 in
    let found = table_found c.table_of.ensures c.in_ok-layout.ensures.value in
    record {
      answer = rw (
        chip_found c.in_ok-chip.ensures,
        found.0,
        points c.in_ok-chip.chip a.plan found.1 c.goes_with.ensures.answer c.if-not-goes_with.false,
        temperatures c.in_ok-chip.chip a.plan typed found c.fit-fitting.ensures c.temperatures_in_order.ensures.answer c.if-not-temperatures_in_order-fitting.true,
      );
    }

pub returns-then-not-speeds_in_order-fitting : goal.returns-then-not-speeds_in_order-fitting
returns-then-not-speeds_in_order-fitting c =
    let a = c.args in
    let typed = plan_typed a.plan _ c.well_formed.0 in
    let found = table_found c.table_of.ensures c.in_ok-layout.ensures.value in
    record {
      answer = rw (
        chip_found c.in_ok-chip.ensures,
        found.0,
        points c.in_ok-chip.chip a.plan found.1 c.goes_with.ensures.answer c.if-not-goes_with.false,
        temperatures c.in_ok-chip.chip a.plan typed found c.fit-fitting.ensures c.temperatures_in_order.ensures.answer c.if-not-temperatures_in_order-fitting.false,
        speeds c.in_ok-chip.chip a.plan typed found c.fit-fitting.ensures c.speeds_in_order.ensures.answer c.if-not-speeds_in_order-fitting.true,
      );
    }

pub returns : goal.returns
returns c =
    let a = c.args in
    let typed = plan_typed a.plan _ c.well_formed.0 in
    let found = table_found c.table_of.ensures c.in_ok-layout.ensures.value in
    record {
      answer = rw (
        chip_found c.in_ok-chip.ensures,
        found.0,
        points c.in_ok-chip.chip a.plan found.1 c.goes_with.ensures.answer c.if-not-goes_with.false,
        temperatures c.in_ok-chip.chip a.plan typed found c.fit-fitting.ensures c.temperatures_in_order.ensures.answer c.if-not-temperatures_in_order-fitting.false,
        speeds c.in_ok-chip.chip a.plan typed found c.fit-fitting.ensures c.speeds_in_order.ensures.answer c.if-not-speeds_in_order-fitting.false,
      );
    }
