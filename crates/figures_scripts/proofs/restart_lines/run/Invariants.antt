-- What holds of the image since the first one, by the counts that are played.
use Rattle.std.proofs.Common.{take}
use Rattle.plays.specs.NeverSlower.{Since}
use Rattle.figures_scripts.proofs.restart_lines.run.Given as goal

abbrev pub invariant-loop-play : goal.invariant-loop-play
invariant-loop-play l = Since l.plan l.fn.image (take l.play l.counts) l.image
