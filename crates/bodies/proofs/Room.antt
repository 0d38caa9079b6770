-- A body of as many points as a plan has room for is the body of as many as the shape says.
-- Assumes nothing.
use Prim.Native.Nat.{ℕ, min}
use mathlib.Core.Path.{◌≡◌, ap₂}
use mathlib.Core.Bool.{Bool, cond}
use mathlib.Core.List.{List, [], ◌∷◌, ◌++◌}
use lib.ListN.{length}
use Rattle.pages.specs.Sheets.{most_points}
use Rattle.curves.proofs.Taken.{take_room}
use Rattle.bodies.specs.Bodies.{slope_body}

pub body_in_room : (leading : Bool) (n : ℕ) (ts : List ℕ) (critical : ℕ) (ds : List ℕ) → length ts ≡ most_points → length ds ≡ most_points
    → slope_body leading (min n most_points) ts critical ds ≡ slope_body leading n ts critical ds
body_in_room leading n ts critical ds t d =
    ap₂ (λ (xs ys : List ℕ). cond leading (critical ∷ xs) (xs ++ (critical ∷ [])) ++ ys) (take_room n most_points ts t) (take_room n most_points ds d)
