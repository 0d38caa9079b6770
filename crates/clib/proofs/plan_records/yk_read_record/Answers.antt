-- `plan_records::yk_read_record` meets its contract: it packs the bytes used, and the chip and the table of the plan that is read.
-- Assumes nothing.
use Rattle.records.specs.Promises.{record_checks}
use Rattle.clib.proofs.Within.{told_within, used_within}
use Rattle.clib.proofs.plan_records.yk_read_record.Goals as goal

pub of_used-requires : goal.of_used-requires
of_used-requires c =
    let bytes = c.args.bytes.now in
    told_within (record_checks bytes) _ _ (used_within bytes) c.read-found.ensures.answer
