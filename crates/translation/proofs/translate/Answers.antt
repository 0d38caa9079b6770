-- `translate` meets its contract: whether there is room decides whether the text is written.
-- Assumes nothing.
use mathlib.Core.Path.{sym, ◌∙◌}
use borrow.Author.Tests.{leb-true}
use Rattle.translation.proofs.Answers.{translated}
use Rattle.translation.proofs.translate.Goals as goal

pub returns : goal.returns
returns c =
    translated _ _ (leb-true _ _ (sym c.has_room.ensures ∙ c.if-not-has_room.false)) c.put.ensures.length c.put.ensures.bytes
