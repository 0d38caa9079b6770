-- `records::plan_from` meets its contract: a table that is found takes the body, and else the look-up says why there is none.
-- Assumes nothing.
use Prim.Native.Nat.{◌+◌, ◌≤◌}
use mathlib.Core.Path.{sym, subst}
use Rattle.pages.specs.declared.Layout.{Layout}
use Rattle.pages.specs.Sheets.{longest}
use Rattle.records.specs.Promises.{fill_checks}
use Rattle.records.proofs.Encoding.{registers_short}
use Rattle.records.proofs.Answers.{plan_refused}
use Rattle.records.proofs.Lookups.{looked_has, looked_refused, taken_by}
use Rattle.records.proofs.plan_from.Goals as goal

pub plan_by-requires : goal.plan_by-requires
plan_by-requires c =
    let a = c.args in
    let H = looked_has a.chip a.table c.in-Ok.layout c.in-Ok.ensures in
    subst (λ (l : Layout). l.settings + l.speeds ≤ longest) (sym H.laid) (registers_short H.chip a.table)

pub returns-in-Err : goal.returns-in-Err
returns-in-Err c =
    let a = c.args in
    plan_refused _ _ _ c.refused.ensures
    (looked_refused a.chip a.table _ (fill_checks a.chip a.table a.bytes.now) c.in-Err.ensures)

pub returns-in-Ok : goal.returns-in-Ok
returns-in-Ok c =
    let a = c.args in
    taken_by _ _ _ (looked_has a.chip a.table c.in-Ok.layout c.in-Ok.ensures) _ _ c.plan_by.ensures
