-- `plan_records::yk_write_record` meets its contract: it packs what is answered of the body.
-- Assumes nothing.
use Rattle.clib.proofs.Within.{record_room}
use Rattle.clib.proofs.plan_records.yk_write_record.Goals as goal

pub of_count-requires : goal.of_count-requires
of_count-requires c = record_room c.args.chip c.args.table c.args.body.now c.write_body-length.ensures
