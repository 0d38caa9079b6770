-- `plan_lines` meets its contract: the script is written, and the header and its lines are the plan's text.
-- Assumes nothing.
use native.Mathlib.Omega.{arith}
use mathlib.Core.Path.{refl}
use Rattle.translation.proofs.Planned.{header_within, writes_within, plan_added}
use Rattle.translation.proofs.plan_lines.Goals as goal

pub header-requires : goal.header-requires
header-requires c =
    header_within c.requires.printable refl c.script.ensures _ c.in-Ok.is (omega arith) c.as_chunks.ensures.front c.args.number c.args.output.now c.requires.in_range

pub writes-requires : goal.writes-requires
writes-requires c =
    writes_within c.requires.printable refl c.script.ensures _ c.in-Ok.is (omega arith) c.as_chunks.ensures.front c.args.number c.requires.in_range c.header.ensures

pub returns : goal.returns
returns c =
    plan_added c.requires.printable refl c.script.ensures _ c.in-Ok.is (omega arith) c.as_chunks.ensures.front c.args.number c.header.ensures c.writes.ensures
