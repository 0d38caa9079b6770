-- `plans::asked_of_plan` meets its contract: each answer knows which chip the number names and whether it has the table.
-- Assumes nothing.
use mathlib.Core.Path.{◌≡◌, sym, ap, ◌∙◌}
use mathlib.Core.Bool.{true, false}
use Prim.Native.Nat.{ℕ}
use Rattle.pages.specs.Sheets.{goes_with}
use Rattle.pages.specs.declared.Layout.{Layout}
use Rattle.curves.specs.Planned.{planned, asks}
use Rattle.plans.specs.Plans.{points_pass}
use Rattle.plans.proofs.Looked.{chip_found, table_found}
use Rattle.plans.proofs.asked_of_plan.Goals as goal

pub returns-then-not-goes_with : goal.returns-then-not-goes_with
unfolding points_pass
returns-then-not-goes_with c =
    let a = c.args in
    let chip = c.in_ok-chip.chip in
    let found = table_found c.table_of.ensures c.in_ok-layout.ensures.value in
    let points : points_pass chip a.plan ≡ false =
    sym (c.goes_with.ensures.answer ∙ ap (λ (l : Layout). goes_with l a.plan.points) found.1) ∙ c.if-not-goes_with.true in
    record { answer = rw (chip_found c.in_ok-chip.ensures, found.0, points) }

pub returns : goal.returns
unfolding points_pass
returns c =
    let a = c.args in
    let chip = c.in_ok-chip.chip in
    let found = table_found c.table_of.ensures c.in_ok-layout.ensures.value in
    let points : points_pass chip a.plan ≡ true =
    sym (c.goes_with.ensures.answer ∙ ap (λ (l : Layout). goes_with l a.plan.points) found.1) ∙ c.if-not-goes_with.false in
    record {
      answer = rw (chip_found c.in_ok-chip.ensures, found.0, points)
          (ap (λ (speed : ℕ). (0, speed))
          (c.speed_of.ensures.answer ∙ ap (λ (l : Layout). asks l.shape (planned l.shape a.plan) a.t) found.1));
    }
