-- What the calls of `curves` promise.
-- Assumes nothing.
use Rattle.std.specs.Prelude.{ℕ, min, ◌≡◌, Bool}
use Rattle.pages.specs.declared.Shape.{Shape}
use Rattle.pages.specs.Sheets.{most_points}
use Rattle.curves.specs.declared.Plan.{Plan}
use Rattle.curves.specs.Planned.{planned, asks, temperatures_in_order, speeds_in_order, full_of}

-- what `curves::count_of` promises
pub record CountsPoints (points r : ℕ) : Type 0 where
  pub answer : r ≡ min points most_points

-- what `curves::speed_of` promises
pub record Asks (shape : Shape) (plan : Plan) (t r : ℕ) : Type 0 where
  pub answer : r ≡ asks shape (planned shape plan) t

-- what `curves::temperatures_in_order` promises
pub record OrdersTemperatures (shape : Shape) (plan : Plan) (r : Bool) : Type 0 where
  pub answer : r ≡ temperatures_in_order shape plan

-- what `curves::speeds_in_order` promises
pub record OrdersSpeeds (shape : Shape) (plan : Plan) (r : Bool) : Type 0 where
  pub answer : r ≡ speeds_in_order shape plan

-- what `curves::full_of` promises
pub record Raises (shape : Shape) (r : ℕ) : Type 0 where
  pub answer : r ≡ full_of shape
