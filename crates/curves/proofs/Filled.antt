-- A plan's curve fills the registers of a fan table of its shape, with bytes.
-- Assumes nothing.
use native.Mathlib.Omega.{arith}
use mathlib.Core.Path.{◌≡◌}
use mathlib.Core.Bool.{So}
use borrow.Author.Tests.{leb-true}
use lib.Dec.{leb}
use mathlib.Core.List.{List, [], ◌∷◌, ◌++◌}
use Prim.Native.Nat.{ℕ, zero, suc, ◌≤◌}
use lib.ListN.{length, take, length-append}
use lib.Seq.{length-take-le}
use Rattle.pages.specs.declared.Shape.{Shape}
use Rattle.pages.specs.declared.Shape.TheVariants.{Slope, Steps}
use Rattle.pages.specs.Sheets.{most_points, room}
use Rattle.pages.proofs.Every.{both}
use Rattle.pages.proofs.Sound.{counts}
use Rattle.curves.specs.declared.Plan.{Plan}
use Rattle.curves.specs.Curves.{halves}
use Rattle.curves.specs.Planned.{planned}
use Rattle.curves.specs.Values.{Within, Sized, Typed}
use Rattle.curves.proofs.StepLaws.{halves_length}

-- a plan has room for the points of a shape
abbrev pub Roomy : Shape → Type 0
Roomy (Slope points full) = points ≤ most_points
Roomy Steps = Unit {0}

pub roomy : (shape : Shape) → So (counts shape) → Roomy shape
roomy (Slope points full) t = leb-true points most_points (both (leb 2 points) (leb points most_points) t).1
roomy Steps t = tt

-- as many settings and speeds as there is room for
pub planned_sized : (shape : Shape) (plan : Plan) → Sized plan → Roomy shape
    → (length (planned shape plan).settings ≡ (room shape).0) × (length (planned shape plan).speeds ≡ (room shape).1)
planned_sized (Slope points full) plan sized p =
    let ts = length-take-le points plan.slope.temperatures (omega (arith, sized.temperatures, p)) in
    let ds = length-take-le points plan.slope.duties (omega (arith, sized.duties, p)) in
    (omega (arith, length-append (take points plan.slope.temperatures) (plan.slope.critical ∷ []), ts), ds)
planned_sized Steps plan sized p = (sized.bounds, omega (arith, halves_length plan.steps.counts, sized.counts))

pub within_append : (xs ys : List ℕ) → Within 8 xs → Within 8 ys → Within 8 (xs ++ ys)
within_append [] ys h k = k
within_append (x ∷ xs) ys h k = (h.0, within_append xs ys h.1 k)

within_take : (n : ℕ) (xs : List ℕ) → Within 8 xs → Within 8 (take n xs)
within_take zero xs h = tt
within_take (suc n) [] h = tt
within_take (suc n) (x ∷ xs) h = (h.0, within_take n xs h.1)

-- the halves of counts are bytes
within_halves : (cs : List ℕ) → Within 16 cs → Within 8 (halves cs)
unfolding halves
within_halves [] h = tt
within_halves (c ∷ cs) h = (omega (arith, h.0), (omega arith, within_halves cs h.1))

pub planned_within : (shape : Shape) (plan : Plan) → Typed plan → Within 8 (planned shape plan).settings × Within 8 (planned shape plan).speeds
planned_within (Slope points full) plan typed = (
  within_append (take points plan.slope.temperatures) (plan.slope.critical ∷ []) (within_take points _ typed.temperatures) (typed.critical, tt),
  within_take points _ typed.duties,
)
planned_within Steps plan typed = (typed.bounds, within_halves plan.steps.counts typed.counts)
