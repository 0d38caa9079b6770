-- `SlopeValues::rising_to_critical` meets its contract: the first degrees are those of the first temperatures.
-- Assumes nothing.
use mathlib.Core.Path.{◌≡◌}
use mathlib.Core.List.{map}
use lib.ListN.{take}
use lib.Dec.{ltb}
use Rattle.pages.specs.Sheets.{most_points}
use Rattle.curves.specs.Curves.{degree}
use Rattle.curves.specs.Orders.{rising}
use Rattle.curves.proofs.Taken.{taken_map}
use borrow.Author.Rules.{rules}
use Rattle.std.proofs.lemmas.Fn.{always_returns_same}
use Rattle.curves.proofs.Walks.{in_chain}
use Rattle.curves.proofs.SlopeValues.rising_to_critical.Goals as goal

pub returns : goal.returns
returns c =
    let a = c.args in
    let first : take c.count_of.result c.degrees_of-degrees.result ≡ map degree (take a.points a.self.temperatures) =
    rw (c.count_of.ensures.answer, c.degrees_of-degrees.ensures) (taken_map degree a.points most_points a.self.temperatures (search rules)) in
    let rises : c.is_sorted_by.result ≡ rising (take c.count_of.result c.degrees_of-degrees.result) =
    in_chain ltb (take c.count_of.result c.degrees_of-degrees.result) _ (c.is_sorted_by.ensures.cases ltb (always_returns_same _ _ _ (λ a r f k. search rules))) in
    rw (rises, c.last_at_most.ensures, c.degree_of.ensures, first)
