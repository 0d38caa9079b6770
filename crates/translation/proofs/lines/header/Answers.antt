-- `lines::header` meets its contract: each word with its number, then the newline.
-- Assumes nothing.
use Rattle.translation.specs.Text.{field}
use Rattle.translation.proofs.Adding.{adds_line}
use Rattle.translation.proofs.lines.header.Goals as goal

pub returns : goal.returns
returns c =
    let a = c.args in
    rw (← c.from.ensures, ← c.from-2.ensures)
    (adds_line (field "plan " a.number) _ c.field.ensures
    (adds_line (field " chip " c.from.result) _ c.field-2.ensures
    (adds_line (field " table " c.from-2.result) (field " writes " a.writes) c.field-3.ensures c.last_field.ensures)))
