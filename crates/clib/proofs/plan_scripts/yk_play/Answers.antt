-- `plan_scripts::yk_play` meets its contract: it packs what is answered of the body, and demand 3 crosses with it.
-- Assumes nothing.
use Rattle.records.specs.Records.{plan_of}
use Rattle.clib.proofs.Within.{play_room}
use Rattle.clib.proofs.plan_scripts.yk_play.Goals as goal

pub of_count-requires : goal.of_count-requires
of_count-requires c = play_room (plan_of c.args.chip c.args.table c.args.body.now) c.args.count c.play_body-made.ensures.plays
