-- The walk of `record_lines`: the text made so far and that of the bytes left are the input's, and each turn uses some bytes.
-- Assumes nothing.
use lib.ListN.{length}
use Rattle.translation.proofs.Walked.{Walked}
use Rattle.translation.proofs.record_lines.Given as goal

abbrev pub invariant-loop-rest : goal.invariant-loop-rest
invariant-loop-rest l = Walked l.input l.rest l.initial.output l.output l.plans

abbrev pub decreases-loop-rest : goal.decreases-loop-rest
decreases-loop-rest l = length l.rest
