-- What code that holds a plan knows of it: every array has its length, and every number fits its type. Read off what owning the parameter tells.
-- Assumes nothing.
use Prim.Native.Nat.{ℕ, zero, suc}
use mathlib.Core.Path.{◌≡◌}
use mathlib.Core.List.{List, [], ◌∷◌}
use lib.ListN.{length, get_or}
use mir.Syntax.{Width, w8, w16}
use mir.Val.{Val, bits}
use denote.Array.{each, Array}
use denote.Laws.{Is}
use denote.Plain.{UInt}
use denote.Shadow.{shadow}
use denote.Struct.Declared.{row}
use Rattle.pages.specs.Sheets.{most_points}
use Rattle.curves.specs.declared.Plan.{Plan}
use Rattle.curves.specs.Orders.{All}
use Rattle.curves.specs.Values.{Within, Typed}
use Rattle.curves.specs.contracts.Plan as declared

each_within : (w : Width) (xs : List ℕ) (us : List Val) → shadow (each ℕ (UInt w).own_val xs us) → Within (bits w) xs
each_within w [] us s = tt
each_within w (x ∷ xs) [] s = absurd s
each_within w (x ∷ xs) (u ∷ us) s = (s.0.1, each_within w xs us s.1)

-- an array that is owned has its length, and its numbers fit
owned : (w : Width) (n : ℕ) (xs : List ℕ) (vs : List Val) → Is (Array (UInt w) n) xs vs → (length xs ≡ n) × Within (bits w) xs
owned w n xs vs s = (s.1.0.1, each_within w xs s.0 s.1.1)

pub plan_typed : (plan : Plan) (vs : List Val) → Is (row declared.the_type) plan vs → Typed plan
plan_typed plan vs s =
    let slope = s.1.1.1.1.1.0.1.1 in
    let steps = s.1.1.1.1.1.1.0.1.1 in
    let temperatures = owned w8 most_points plan.slope.temperatures _ slope.0 in
    let duties = owned w8 most_points plan.slope.duties _ slope.1.1.0 in
    let bounds = owned w8 4 plan.steps.bounds _ steps.0 in
    let counts = owned w16 5 plan.steps.counts _ steps.1.0 in
    record {
      sized = record { temperatures = temperatures.0; duties = duties.0; bounds = bounds.0; counts = counts.0 };
      points = s.1.1.1.1.0.1;
      temperatures = temperatures.1;
      critical = slope.1.0.1;
      duties = duties.1;
      bounds = bounds.1;
      counts = counts.1;
    }

-- what holds of each entry, and of 0, holds of what stands at any place
pub all_at : (P : ℕ → Type 0) (l : List ℕ) → All P l → P 0 → (k : ℕ) → P (get_or l k 0)
all_at P [] h z k = z
all_at P (x ∷ l) h z zero = h.0
all_at P (x ∷ l) h z (suc k) = all_at P l h.1 z k
