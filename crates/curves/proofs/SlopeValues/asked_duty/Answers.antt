-- `SlopeValues::asked_duty` meets its contract: critical is asked first, and below it the points.
-- Assumes nothing.
use Rattle.curves.proofs.Walks.{slope_hot, slope_cool}
use Rattle.pages.specs.Sheets.{most_points}
use Rattle.curves.specs.Curves.{degree}
use Rattle.curves.proofs.Taken.{take_room, taken_map}
use native.Mathlib.Omega.{arith}
use mathlib.Core.Path.{◌∙◌}
use Prim.Native.Nat.{◌≤◌, ◌<◌}
use borrow.Author.Rules.{rules}
use Rattle.curves.proofs.SlopeValues.asked_duty.Goals as goal

pub returns-then-degree_of-at : goal.returns-then-degree_of-at
returns-then-degree_of-at c =
    let a = c.args in
    let hot : degree a.self.critical ≤ degree a.t = omega (arith, c.degree_of.ensures, c.degree_of-at.ensures) in
    slope_hot a.full _ (degree a.self.critical) (degree a.t) hot

pub returns : goal.returns
returns c =
    let a = c.args in
    let cool : degree a.t < degree a.self.critical = omega (arith, c.if-degree_of-at.false, c.degree_of.ensures, c.degree_of-at.ensures) in
    c.duty_below.ensures
    ∙ rw (
      c.count_of-count.ensures.answer,
      c.degrees_of-degrees.ensures,
      c.degree_of-at.ensures,
      taken_map degree a.number most_points a.self.temperatures (search rules),
      take_room a.number most_points a.self.duties (search rules),
    )
    (slope_cool a.full _ (degree a.self.critical) (degree a.t) cool)
