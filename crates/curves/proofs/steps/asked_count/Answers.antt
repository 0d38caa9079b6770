-- `curves::steps::asked_count` meets its contract: the count is that of the first bound that T is above.
-- Assumes nothing.
use Prim.Native.Nat.{ℕ}
use native.Mathlib.Omega.{arith}
use mathlib.Core.Path.{◌≡◌, ap, sym, ◌∙◌}
use lib.Dec.{ltb}
use lib.ListN.{get_or}
use Rattle.std.specs.List.{position_or_len}
use Rattle.std.proofs.lemmas.Grind.{common_steps}
use Rattle.curves.proofs.Walks.{step_at, none_passes}
use Rattle.curves.proofs.steps.asked_count.Goals as goal

pub returns-in-Some : goal.returns-in-Some
returns-in-Some c =
    let a = c.args in
    let place : c.in-Some.k ≡ position_or_len (λ b. ltb b a.t) a.bounds = grind (arith, common_steps) in
    ap (λ (k : ℕ). get_or a.counts k 0) place ∙ step_at a.bounds a.counts a.t

pub returns-in-None : goal.returns-in-None
returns-in-None c =
    let a = c.args in
    let place : 4 ≡ position_or_len (λ b. ltb b a.t) a.bounds =
    omega (arith, none_passes (λ b. ltb b a.t) a.bounds (sym c.first_passed.ensures ∙ c.in-None.is)) in
    ap (λ (k : ℕ). get_or a.counts k 0) place ∙ step_at a.bounds a.counts a.t
