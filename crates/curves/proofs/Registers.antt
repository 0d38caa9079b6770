-- A curve in register order: a list is spelled by its places, and a plan asks what its curve does.
-- Assumes nothing.
use Prim.Native.Nat.{ℕ, zero, suc, ◌+◌, ◌≤◌}
use native.Mathlib.Omega.{arith}
use mathlib.Core.Path.{◌≡◌, refl, sym, ap, ◌∙◌}
use mathlib.Core.List.{List, ◌∷◌}
use lib.ListN.{length, get_or, take, drop}
use lib.Seq.{drop-cons, take_all}
use Rattle.pages.specs.Rows.{from}
use Rattle.pages.specs.declared.Shape.TheVariants.{Steps}
use Rattle.curves.specs.declared.Plan.{Plan}
use Rattle.curves.specs.Curves.{step_rule}
use Rattle.curves.specs.Planned.{planned, values_at, asks}
use Rattle.curves.proofs.StepLaws.{words_halves}

-- what stands at n places in a row is a part of the list
pub in_a_row : (l : List ℕ) (k n : ℕ) → k + n ≤ length l → values_at l (from k n) ≡ take n (drop k l)
in_a_row l k zero h = refl
in_a_row l k (suc n) h =
    ap (λ (m : List ℕ). get_or l k 0 ∷ m) (in_a_row l (suc k) n (omega arith)) ∙ sym (ap (take (suc n)) (drop-cons l k 0 (omega arith)))

-- so a list of n numbers is what stands at its n places
pub spelled : (l : List ℕ) (n : ℕ) → length l ≡ n → values_at l (from 0 n) ≡ l
spelled l n h = in_a_row l 0 n (omega arith) ∙ take_all n l (omega arith)

-- a plan asks what the curve of its registers asks
pub planned_count : (plan : Plan) (t : ℕ) → step_rule plan.steps.bounds plan.steps.counts t ≡ asks Steps (planned Steps plan) t
planned_count plan t = rw (words_halves plan.steps.counts)
