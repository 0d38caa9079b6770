-- `playing::make_all` meets its contract: the writes that are left, made on the image as it is, leave what all of them leave.
-- Assumes nothing.
use Rattle.std.proofs.Common.{◌≡◌}
use Rattle.scripts.specs.Left.{left_of}
use Rattle.scripts.specs.Making.{made_of}
use Rattle.scripts.proofs.playing.make_all.Given as goal

abbrev pub invariant-loop-write : goal.invariant-loop-write
invariant-loop-write l = made_of (left_of l.write-iterator) l.image ≡ made_of (left_of l.fn.writes) l.initial.image
