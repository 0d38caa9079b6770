-- `lines::end` meets its contract: the word with its number, then the newline.
-- Assumes nothing.
use Rattle.translation.specs.Text.{end_line}
use Rattle.translation.proofs.Adding.{adds_then}
use Rattle.translation.proofs.lines.end.Goals as goal

pub returns : goal.returns
unfolding end_line
returns c = adds_then c.field.ensures c.append.ensures
