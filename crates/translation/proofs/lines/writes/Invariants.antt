-- The loop of `lines::writes`: the lines of the writes passed are added.
-- Assumes nothing.
use lib.ListN.{take}
use Rattle.translation.specs.Text.{write_lines}
use Rattle.translation.specs.Parts.{Adds, writes_of}
use Rattle.translation.proofs.lines.writes.Given as goal

abbrev pub invariant-loop-address : goal.invariant-loop-address
invariant-loop-address l = Adds (write_lines (writes_of (take l.address-index l.script))) l.initial.output l.output
