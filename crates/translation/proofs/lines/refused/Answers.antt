-- `lines::refused` meets its contract: each word with its number, then the newline.
-- Assumes nothing.
use Rattle.translation.specs.Text.{field, refused_line}
use Rattle.translation.proofs.Adding.{adds_line}
use Rattle.translation.proofs.lines.refused.Goals as goal

pub returns : goal.returns
unfolding refused_line
returns c =
    rw (← c.from.ensures)
    (adds_line (field "plan " c.args.number) (field " refused " c.from.result) c.field.ensures c.last_field.ensures)
