-- `images::fill` meets its contract: the places passed hold the power-on values of their rows.
-- Assumes nothing.
use Rattle.pages.specs.Cards.{row_of}
use Rattle.pages.proofs.Filling.{Filled}
use lib.ListN.{length}
use Rattle.images.proofs.fill.Given as goal

abbrev pub invariant-loop-at : goal.invariant-loop-at
invariant-loop-at l = Filled (λ k. (row_of l.chip k).power) (length l.initial.working) l.working l.at
