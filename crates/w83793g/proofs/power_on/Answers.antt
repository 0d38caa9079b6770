-- `w83793g::power_on` meets its contract: each array has the power-on values of its bank, by computation.
use Rattle.std.proofs.Common.{ℕ, arith}
use Rattle.pages.specs.Rows.{Row}
use Rattle.pages.specs.W83793gBank0 as bank0
use Rattle.pages.specs.W83793gBank1 as bank1
use Rattle.pages.specs.W83793gBank2 as bank2
use Rattle.w83793g.proofs.Arrays.{at_0, at_1, at_2, at_none}
use Rattle.w83793g.proofs.power_on.Goals as goal

abbrev power : Row → ℕ
power r = r.power

pub returns-in-0 : goal.returns-in-0
unfolding bank0.bank
returns-in-0 c = at_0 power c.args.bank c.args.address c.in-0.is c.requires

pub returns-in-1 : goal.returns-in-1
unfolding bank1.bank
returns-in-1 c = at_1 power c.args.bank c.args.address c.in-1.is c.requires

pub returns-in-2 : goal.returns-in-2
unfolding bank2.bank
returns-in-2 c = at_2 power c.args.bank c.args.address c.in-2.is c.requires

pub returns-in_default : goal.returns-in_default
returns-in_default c = at_none power c.args.bank c.args.address (omega arith)
