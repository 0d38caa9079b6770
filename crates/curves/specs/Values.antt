-- "Plans and what they ask": what a plan holds. Zero values, and what the types say of those that code holds.
-- Assumes nothing.
use Rattle.std.specs.Prelude.{ℕ, ◌<◌, ◌^◌, ◌≡◌, List, length, replicate}
use Rattle.pages.specs.Sheets.{most_points}
use Rattle.curves.specs.declared.SlopeValues.{SlopeValues}
use Rattle.curves.specs.declared.StepValues.{StepValues}
use Rattle.curves.specs.declared.Plan.{Plan}
use Rattle.curves.specs.Orders.{All}

-- the values of a kind of curve that a plan does not have
abbrev pub no_slope : SlopeValues
no_slope = record { temperatures = replicate most_points 0; critical = 0; duties = replicate most_points 0 }

abbrev pub no_steps : StepValues
no_steps = record { bounds = replicate 4 0; counts = replicate 5 0 }

-- each entry fits a number of bits
abbrev pub Within : ℕ → List ℕ → Type 0
Within bits xs = All (λ x. x < 2 ^ bits) xs

-- a plan's arrays are as long as its type says
pub record Sized (plan : Plan) : Type 0 where
  pub temperatures : length plan.slope.temperatures ≡ most_points
  pub duties : length plan.slope.duties ≡ most_points
  pub bounds : length plan.steps.bounds ≡ 4
  pub counts : length plan.steps.counts ≡ 5

-- what its type says of every plan that code holds: the arrays' lengths and the numbers' ranges
pub record Typed (plan : Plan) : Type 0 where
  pub sized : Sized plan
  pub points : plan.points < 2 ^ 8
  pub temperatures : Within 8 plan.slope.temperatures
  pub critical : plan.slope.critical < 2 ^ 8
  pub duties : Within 8 plan.slope.duties
  pub bounds : Within 8 plan.steps.bounds
  pub counts : Within 16 plan.steps.counts
