-- The buffer keeps its length, and each turn fills some of what is left of it, so the loop ends.
use Rattle.std.proofs.Common.{length, ◌-◌, ◌≤◌, ◌≡◌}
use Rattle.translate.proofs.read_all.Given as goal

abbrev pub invariant-loop-filled : goal.invariant-loop-filled
invariant-loop-filled l = (length l.buffer ≡ length l.initial.buffer) × (l.filled ≤ length l.initial.buffer)

abbrev pub decreases-loop-filled : goal.decreases-loop-filled
decreases-loop-filled l = length l.initial.buffer - l.filled
