-- `StepValues::counts_never_fall` meets its contract: it is what `is_sorted_by` answers.
-- Assumes nothing.
use lib.Dec.{leb}
use borrow.Author.Rules.{rules}
use Rattle.std.proofs.lemmas.Fn.{always_returns_same}
use Rattle.curves.proofs.Walks.{in_chain}
use Rattle.curves.proofs.StepValues.counts_never_fall.Goals as goal

pub returns : goal.returns
returns c = in_chain leb c.args.self.counts _ (c.is_sorted_by.ensures.cases leb (always_returns_same _ _ _ (λ a r f k. search rules)))
