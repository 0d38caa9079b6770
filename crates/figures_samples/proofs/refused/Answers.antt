-- `figures_samples::refused` meets its contract: the last arm's number is past the list's 32 plans, so the list has its default there.
use Rattle.std.proofs.Common.{arith, ◌≤◌, ◌∙◌, sym}
use Rattle.std.proofs.Math.ListN.{get_or-eq_default}
use Rattle.figures_samples.specs.Samples.{refused_ones}
use Rattle.figures_samples.proofs.refused.Goals as goal

pub returns-in_default : goal.returns-in_default
returns-in_default c =
    let past : 32 ≤ c.args.k = omega (arith, c.in_default) in
    c.seven-in_default.ensures ∙ sym (get_or-eq_default refused_ones _ {n = c.args.k} past)
