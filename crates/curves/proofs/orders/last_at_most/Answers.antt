-- `curves::orders::last_at_most` meets its contract: it asks the last temperature, if there is one.
-- Assumes nothing.
use native.Mathlib.Omega.{arith}
use Rattle.std.proofs.lemmas.Grind.{common_steps}
use Rattle.curves.proofs.Walks.{last_there, last_missing}
use Rattle.curves.proofs.orders.last_at_most.Goals as goal

pub returns : goal.returns
returns c = grind (arith, common_steps, last_there, last_missing)
