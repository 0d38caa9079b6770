-- `plan_scripts::yk_script` meets its contract: it packs what is answered of the body.
-- Assumes nothing.
use Rattle.records.specs.Records.{plan_of}
use Rattle.clib.proofs.Within.{script_room}
use Rattle.clib.proofs.plan_scripts.yk_script.Goals as goal

pub of_count-requires : goal.of_count-requires
of_count-requires c = script_room (plan_of c.args.chip c.args.table c.args.body.now) c.script_of_body-writes.ensures
