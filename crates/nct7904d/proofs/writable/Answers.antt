-- `nct7904d::writable` meets its contract: each array has the bits that may be written of its bank, by computation.
use Rattle.std.proofs.Common.{ℕ, arith}
use Rattle.pages.specs.Rows.{Row}
use Rattle.pages.specs.Nct7904dBank0 as bank0
use Rattle.pages.specs.Nct7904dBank1 as bank1
use Rattle.pages.specs.Nct7904dBank2 as bank2
use Rattle.pages.specs.Nct7904dBank3 as bank3
use Rattle.pages.specs.Nct7904dBank4 as bank4
use Rattle.nct7904d.proofs.Arrays.{at_0, at_1, at_2, at_3, at_4, at_none}
use Rattle.nct7904d.proofs.writable.Goals as goal

abbrev writable : Row → ℕ
writable r = r.writable

pub returns-in-0 : goal.returns-in-0
unfolding bank0.bank
returns-in-0 c = at_0 writable c.args.bank c.args.address c.in-0.is c.requires

pub returns-in-1 : goal.returns-in-1
unfolding bank1.bank
returns-in-1 c = at_1 writable c.args.bank c.args.address c.in-1.is c.requires

pub returns-in-2 : goal.returns-in-2
unfolding bank2.bank
returns-in-2 c = at_2 writable c.args.bank c.args.address c.in-2.is c.requires

pub returns-in-3 : goal.returns-in-3
unfolding bank3.bank
returns-in-3 c = at_3 writable c.args.bank c.args.address c.in-3.is c.requires

pub returns-in-4 : goal.returns-in-4
unfolding bank4.bank
returns-in-4 c = at_4 writable c.args.bank c.args.address c.in-4.is c.requires

pub returns-in_default : goal.returns-in_default
returns-in_default c = at_none writable c.args.bank c.args.address (omega arith)
