-- `asked::asked_of_body` meets its contract: it answers the refusal of the body, or what the library answers of the plan in it.
-- Assumes nothing.
use Rattle.std.specs.Prelude.{Err}
use mathlib.Core.Path.{◌≡◌}
use borrow.Author.Rules.{rules}
use Rattle.clib.proofs.Bodies.{Crossed, crossed, asks_crossed, asks_refused}
use Rattle.clib.proofs.asked.asked_of_body.Goals as goal

pub returns-in_err-found : goal.returns-in_err-found
returns-in_err-found c =
    let a = c.args in
    let same : c.from_residual.result ≡ Err c.in_err-found.field-0.0 = search rules in
    rw same (asks_refused a.chip a.table a.body.now c.in_err-found.field-0.0 _ c.plan_from-found.ensures c.in_err-found.was _)

pub returns : goal.returns
returns c =
    let taken : Crossed c.args.chip c.args.table c.args.body.now c.plan_from-found.result.plan = crossed _ _ _ _ _ c.plan_from-found.ensures c.in_ok-found.was in
    asks_crossed _ _ _ taken c.asked_of_plan.ensures
