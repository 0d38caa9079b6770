-- `Writes::of` meets its contract: a plan's load is short, and each turn from the first one lies inside.
-- Assumes nothing.
use Rattle.std.proofs.Common.{sym, subst, arith}
use Rattle.curves.proofs.Owned.{plan_typed}
use Rattle.scripts.specs.Making.{Short}
use Rattle.scripts.proofs.Prepared.{load_short}
use Rattle.scripts.proofs.making.Writes.of.Goals as goal

pub overflow_add-result-3 : goal.overflow_add-result-3
overflow_add-result-3 c =
    let a = c.args in
    let short = subst Short (sym c.load_of-load.ensures) (load_short a.chip a.plan (plan_typed a.plan _ c.well_formed.1.0).sized) in
    omega (arith, short.registers, short.selects)

pub invariant_of-result : goal.invariant_of-result
invariant_of-result c =
    let a = c.args in
    let short = subst Short (sym c.load_of-load.ensures) (load_short a.chip a.plan (plan_typed a.plan _ c.well_formed.1.0).sized) in
    record { short = short; inside = short.turns }
