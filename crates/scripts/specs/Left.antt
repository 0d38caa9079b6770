-- The writes that are still to come of a `Writes`.
-- Assumes nothing.
use Rattle.std.specs.Prelude.{List}
use Rattle.scripts.specs.declared.making.Write.{Write}
use Rattle.scripts.specs.declared.making.Writes.{Writes}
use Rattle.scripts.specs.Making.{coming}

abbrev pub left_of : Writes → List Write
left_of w = coming w.load w.body w.cursor w.left
