-- `images::place` meets its contract: inside the image by the register's masks; behind its end there is nothing to change.
-- Assumes nothing.
use mathlib.Core.Path.{sym}
use lib.Seq.{set_out}
use Rattle.images.specs.Bytes.{stored, stored_at}
use Rattle.images.proofs.place.Goals as goal

pub returns-then-at-image : goal.returns-then-at-image
unfolding stored stored_at
returns-then-at-image c = record { bytes = rw c.stored.ensures }

pub returns-else-at-image : goal.returns-else-at-image
unfolding stored_at
returns-else-at-image c = record { bytes = sym (set_out _ _ _ c.if-at-image.false) }
