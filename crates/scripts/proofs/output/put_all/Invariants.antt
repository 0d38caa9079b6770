-- `output::put_all` meets its contract: the pairs that are left, put into the buffer as it is, leave what all of them leave.
-- Assumes nothing.
use Rattle.scripts.specs.Left.{left_of}
use Rattle.scripts.proofs.Turns.{Putting}
use Rattle.scripts.proofs.output.put_all.Given as goal

abbrev pub invariant-loop-k : goal.invariant-loop-k
invariant-loop-k l = Putting (left_of l.fn.writes) l.initial.out (left_of l.k-iterator.iter) l.k-iterator.count l.out
