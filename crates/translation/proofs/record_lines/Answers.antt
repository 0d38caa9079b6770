-- `record_lines` meets its contract: each turn adds the text of one record, or ends the text at a refusal.
-- Assumes nothing.
use Prim.Native.Nat.{ℕ, ◌+◌}
use mathlib.Core.Path.{sym, subst}
use mathlib.Core.List.{List}
use Rattle.translation.proofs.Walked.{Walked, walked_more, plan_accepts, plan_within, used_within, refused_within, refused_added, end_within, end_added}
use Rattle.translation.proofs.record_lines.Goals as goal

pub refused-requires : goal.refused-requires
refused-requires c =
    refused_within c.requires.short c.requires.in_range c.loop-rest.invariant c.loop-rest-test.ensures c.read-found.ensures _ c.in-Err.is c.from.ensures.answer

pub returns-in-Err : goal.returns-in-Err
returns-in-Err c =
    refused_added c.requires.short c.requires.in_range c.loop-rest.invariant c.loop-rest-test.ensures c.read-found.ensures _ c.in-Err.is c.from.ensures.answer
    c.refused.ensures

pub plan_lines-requires-clause-printable : goal.plan_lines-requires-clause-printable
plan_lines-requires-clause-printable c =
    plan_accepts c.requires.short c.requires.in_range c.loop-rest.invariant c.loop-rest-test.ensures c.read-found.ensures _ c.in-Ok.is

pub plan_lines-requires-clause-in_range : goal.plan_lines-requires-clause-in_range
plan_lines-requires-clause-in_range c =
    plan_within c.requires.short c.requires.in_range c.loop-rest.invariant c.loop-rest-test.ensures c.read-found.ensures _ c.in-Ok.is

pub split_at-requires : goal.split_at-requires
split_at-requires c =
    (used_within c.requires.short c.requires.in_range c.loop-rest.invariant c.loop-rest-test.ensures c.read-found.ensures _ c.in-Ok.is).0

pub loop-rest-preserved : goal.loop-rest-preserved
loop-rest-preserved c =
    subst (λ (left : List ℕ). Walked c.args.input.now left c.args.output.now c.plan_lines.new.output (c.loop-rest.plans + 1)) (sym c.split_at.ensures.back)
    (walked_more c.requires.short c.requires.in_range c.loop-rest.invariant c.loop-rest-test.ensures c.read-found.ensures _ c.in-Ok.is c.plan_lines.ensures)

pub end-requires : goal.end-requires
end-requires c = end_within c.requires.short c.requires.in_range c.loop-rest.invariant c.loop-rest-test.ensures

pub returns : goal.returns
returns c = end_added c.requires.short c.requires.in_range c.loop-rest.invariant c.loop-rest-test.ensures c.end.ensures
