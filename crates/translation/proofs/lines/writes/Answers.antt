-- `lines::writes` meets its contract: each turn adds the line of one write.
-- Assumes nothing.
use Rattle.translation.proofs.WriteLines.{line_within, line_added}
use Rattle.translation.proofs.lines.writes.Goals as goal

pub write-requires : goal.write-requires
write-requires c = line_within c.args.script.now c.loop-address.address-index c.loop-address-test.true c.requires c.loop-address.invariant

pub loop-address-preserved : goal.loop-address-preserved
loop-address-preserved c =
    line_added c.args.script.now c.loop-address.address-index c.loop-address-test.true c.loop-address.invariant c.write.ensures
