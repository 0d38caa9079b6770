-- `plan_scripts::play_body` meets its contract: it answers the refusal of the body, or what the library answers of the plan in it.
-- Assumes nothing.
use Rattle.std.specs.Prelude.{Err}
use mathlib.Core.Path.{◌≡◌}
use borrow.Author.Rules.{rules}
use Rattle.clib.proofs.Bodies.{Crossed, crossed, play_crossed, play_refused}
use Rattle.clib.proofs.plan_scripts.play_body.Goals as goal

pub returns-in_err-found-clause-plays : goal.returns-in_err-found-clause-plays
returns-in_err-found-clause-plays c =
    let a = c.args in
    let same : c.from_residual.result ≡ Err c.in_err-found.field-0.0 = search rules in
    rw same (play_refused a.chip a.table a.body.now c.in_err-found.field-0.0 _ c.plan_from-found.ensures c.in_err-found.was _ _)

pub returns-clause-plays : goal.returns-clause-plays
returns-clause-plays c =
    let taken : Crossed c.args.chip c.args.table c.args.body.now c.plan_from-found.result.plan = crossed _ _ _ _ _ c.plan_from-found.ensures c.in_ok-found.was in
    play_crossed _ _ _ taken c.play.ensures.plays
