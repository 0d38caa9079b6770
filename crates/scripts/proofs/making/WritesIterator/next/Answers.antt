-- `Writes::next` meets its contract: the cursor behind a write is a step further, so that the turns that are left lie inside.
-- Assumes nothing.
use Rattle.std.proofs.Common.{sym, ap, ◌∙◌}
use Rattle.pages.specs.Rows.{stands_at}
use Rattle.scripts.proofs.Turns.{turn_ready, turn_select, inside_behind}
use Rattle.scripts.proofs.making.WritesIterator.next.Goals as goal

pub invariant_of-self : goal.invariant_of-self
invariant_of-self c =
    let s = c.args.self.now in
    let turn =
    turn_ready s.load s.body s.cursor _ _ (c.register_at-register.ensures.answer ∙ ap (stands_at s.load.stretches) c.place.ensures) c.byte-byte.ensures
    (sym c.is_ready.ensures ∙ c.if-is_ready.true) in
    record { short = s.short; inside = inside_behind s.load s.cursor s.left s.inside turn.1 }

pub invariant_of-self-2 : goal.invariant_of-self-2
invariant_of-self-2 c =
    let s = c.args.self.now in
    let turn =
    turn_select s.load s.body s.cursor _ (c.register_at-register.ensures.answer ∙ ap (stands_at s.load.stretches) c.place.ensures)
    (sym c.is_ready.ensures ∙ c.if-is_ready.false) in
    record { short = s.short; inside = inside_behind s.load s.cursor s.left s.inside turn.1 }
