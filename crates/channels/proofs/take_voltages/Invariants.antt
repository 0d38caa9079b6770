-- `channels::take_voltages`: the channels passed are `voltage_taken` in turn.
-- Assumes nothing.
use Rattle.std.proofs.Common.{◌≡◌}
use Rattle.channels.specs.Channels.{voltages_taken}
use Rattle.channels.proofs.take_voltages.Given as goal

abbrev pub invariant-loop-n : goal.invariant-loop-n
invariant-loop-n l = l.image ≡ voltages_taken l.n l.word-items l.initial.image
