-- `SlopeValues::duties_never_fall` meets its contract: it is what `is_sorted_by` answers of the duties that there are.
-- Assumes nothing.
use mathlib.Core.Path.{ap, ◌∙◌}
use lib.Dec.{leb}
use borrow.Author.Rules.{rules}
use Rattle.std.proofs.lemmas.Fn.{always_returns_same}
use Rattle.pages.specs.Sheets.{most_points}
use Rattle.curves.specs.Orders.{never_falls}
use Rattle.curves.proofs.Taken.{take_room}
use Rattle.curves.proofs.Walks.{in_chain}
use Rattle.curves.proofs.SlopeValues.duties_never_fall.Goals as goal

pub returns : goal.returns
returns c = in_chain leb _ _ (c.is_sorted_by.ensures.cases leb (always_returns_same _ _ _ (λ a r f k. search rules))) ∙ rw c.count_of.ensures.answer (ap never_falls (take_room c.args.points most_points c.args.self.duties (search rules)))
