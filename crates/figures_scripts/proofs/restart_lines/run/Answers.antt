-- `restart_lines::run` meets its contract: what holds of the image before a play holds after it, which is all that `plays::play` is asked for.
use Rattle.plays.proofs.NeverSlower.{since_first}
use Rattle.figures_scripts.proofs.Runs.{one_more, all_of}
use Rattle.figures_scripts.proofs.restart_lines.run.Goals as goal

pub loop-play-init : goal.loop-play-init
loop-play-init c = since_first _ _

pub loop-play-preserved : goal.loop-play-preserved
loop-play-preserved c = one_more _ _ c.loop-play-test.true (c.again.ensures.again _ _ c.loop-play.invariant)

pub returns : goal.returns
returns c = all_of _ _ c.loop-play-test.false c.loop-play.invariant
