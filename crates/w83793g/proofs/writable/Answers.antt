-- `w83793g::writable` meets its contract: each array has the bits that may be written of its bank, by computation.
use Rattle.std.proofs.Common.{ℕ, arith}
use Rattle.pages.specs.Rows.{Row}
use Rattle.pages.specs.W83793gBank0 as bank0
use Rattle.pages.specs.W83793gBank1 as bank1
use Rattle.pages.specs.W83793gBank2 as bank2
use Rattle.w83793g.proofs.Arrays.{at_0, at_1, at_2, at_none}
use Rattle.w83793g.proofs.writable.Goals as goal

abbrev writable : Row → ℕ
writable r = r.writable

pub returns-in-0 : goal.returns-in-0
unfolding bank0.bank
returns-in-0 c = at_0 writable c.args.bank c.args.address c.in-0.is c.requires

pub returns-in-1 : goal.returns-in-1
unfolding bank1.bank
returns-in-1 c = at_1 writable c.args.bank c.args.address c.in-1.is c.requires

pub returns-in-2 : goal.returns-in-2
unfolding bank2.bank
returns-in-2 c = at_2 writable c.args.bank c.args.address c.in-2.is c.requires

pub returns-in_default : goal.returns-in_default
returns-in_default c = at_none writable c.args.bank c.args.address (omega arith)
