-- `last_field` meets its contract: the newline is added behind the number.
-- Assumes nothing.
use Rattle.translation.proofs.Adding.{adds_then}
use Rattle.translation.proofs.output.Output.last_field.Goals as goal

pub returns : goal.returns
returns c = adds_then c.field.ensures c.append.ensures
