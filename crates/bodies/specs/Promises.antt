-- What the calls of `bodies` promise.
-- Assumes nothing.
use Rattle.std.specs.Prelude.{ℕ, ◌≡◌, Bool, List, get_or}
use Rattle.pages.specs.declared.Shape.{Shape}
use Rattle.pages.specs.Rows.{column}
use Rattle.pages.specs.Sheets.{longest}
use Rattle.curves.specs.declared.Plan.{Plan}
use Rattle.bodies.specs.Bodies.{body_of, decoded}

-- what `bodies::plan_of` promises. The bytes are only read, so they are what they were.
pub record Decodes (leading : Bool) (shape : Shape) (chip table points : ℕ) (bytes : List ℕ) (plan : Plan) : Type 0 where
  pub answer : plan ≡ decoded leading shape chip table points bytes

-- what `bodies::body_of` promises: the bytes of a plan's body, "9 bytes for chip 1, 14 for chip 2", and zeros behind them
pub record EncodesBody (leading : Bool) (shape : Shape) (plan : Plan) (bytes : List ℕ) : Type 0 where
  pub answer : bytes ≡ column longest (λ k. get_or (body_of leading shape plan) k 0)
