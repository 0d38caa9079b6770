-- `StepValues::bounds_fall` meets its contract: it is what `is_sorted_by` answers.
-- Assumes nothing.
use lib.Dec.{ltb}
use borrow.Author.Rules.{rules}
use Rattle.std.proofs.lemmas.Fn.{always_returns_same}
use Rattle.curves.proofs.Walks.{in_chain}
use Rattle.curves.proofs.StepValues.bounds_fall.Goals as goal

pub returns : goal.returns
returns c = in_chain (λ a b. ltb b a) c.args.self.bounds _ (c.is_sorted_by.ensures.cases (λ a b. ltb b a) (always_returns_same _ _ _ (λ a r f k. search rules)))
