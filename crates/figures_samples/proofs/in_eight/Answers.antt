-- Each of the eight is the point at its place, or 0 behind them.
use Rattle.std.proofs.Common.{rules, get_or}
use Rattle.std.proofs.lemmas.List.FromFn.{fill_by_all}
use Rattle.figures_samples.proofs.in_eight.Goals as goal

pub returns : goal.returns
returns c =
    fill_by_all (λ k. get_or c.args.points.now k 0) c.from_fn.result 8 0 c.from_fn.ensures.items.long
    (λ k h. let called = c.from_fn.ensures.items.at k 0 h in search rules)
