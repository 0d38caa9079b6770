-- What acceptance gives: the chip, its table, values in order that the table holds, and a curve that never asks less as the temperature rises.
-- Assumes nothing.
use Rattle.std.specs.Prelude.{Result, Option, Ok, Err, Some, None}
use Prim.Native.Nat.{ℕ, ◌≤◌, ◌<◌}
use mathlib.Core.Path.{◌≡◌, refl, sym, ap, ◌∙◌}
use mathlib.Core.Bool.{Bool, true, false, So, cond, not}
use mathlib.Core.List.{List, [], ◌∷◌, map}
use native.Mathlib.Omega.{arith}
use borrow.Author.Tests.{not-false}
use lib.Dec.{lit<}
use lib.ListN.{length, get_or, take}
use Rattle.refusal.specs.declared.Refusal.{Refusal}
use Rattle.refusal.specs.Refusals.{number_of}
use Rattle.refusal.specs.Checks.{Check, first}
use Rattle.refusal.proofs.Passed.{passed}
use Rattle.pages.specs.declared.Chip.{Chip}
use Rattle.pages.specs.declared.Shape.TheVariants.{Slope, Steps}
use Rattle.pages.specs.Cards.{chip_of, when_known, unknown, has_table, no_table}
use Rattle.curves.specs.declared.Plan.{Plan}
use Rattle.curves.specs.Curves.{degree}
use Rattle.curves.specs.Orders.{Each, never_falls, fulls, MoreDuty}
use Rattle.curves.specs.Planned.{planned, asks}
use Rattle.plans.specs.Plans.{points_pass, temperatures_pass, speeds_pass, accepted_of, accepted}
use Rattle.plans.specs.Promises.{points_out, temperatures_out, speeds_out, plan_checks, Accepts}
use Rattle.curves.proofs.SlopeLaws.{slope_never_falls}
use Rattle.curves.proofs.StepLaws.{steps_never_rises, words_halves}

-- a plan of a chip that no check refuses
pub record Accepted (chip : Chip) (plan : Plan) : Type 0 where
  pub has : has_table chip plan.table ≡ true
  pub points : points_pass chip plan ≡ true
  pub temperatures : temperatures_pass chip plan ≡ true
  pub speeds : speeds_pass chip plan ≡ true

pub passed_plan : (chip : Chip) (plan : Plan) → chip_of plan.chip ≡ Some chip → first (plan_checks plan) ≡ 0 → Accepted chip plan
passed_plan chip plan e h =
    let behind_six : List Check = (not (speeds_pass chip plan), 7) ∷ [] in
    let behind_form : List Check = (not (temperatures_pass chip plan), 6) ∷ behind_six in
    let behind_four : List Check = (not (points_pass chip plan), 16) ∷ behind_form in
    let known : first ((not (has_table chip plan.table), 4) ∷ behind_four) ≡ 0 = rw e at h in
    let four = passed (not (has_table chip plan.table)) 4 behind_four (lit< tt) known in
    let form = passed (not (points_pass chip plan)) 16 behind_form (lit< tt) four.1 in
    let six = passed (not (temperatures_pass chip plan)) 6 behind_six (lit< tt) form.1 in
    let seven = passed (not (speeds_pass chip plan)) 7 [] (lit< tt) six.1 in
    record {
      has = not-false _ four.0;
      points = not-false _ form.0;
      temperatures = not-false _ six.0;
      speeds = not-false _ seven.0;
    }

-- it names a chip
pub accepted_known : (plan : Plan) → first (plan_checks plan) ≡ 0 → unknown plan.chip ≡ false
accepted_known plan h =
    (passed (unknown plan.chip) 3
    ((no_table plan.chip plan.table, 4) ∷ (points_out plan, 16) ∷ (temperatures_out plan, 6) ∷ (speeds_out plan, 7) ∷ [])
    (lit< tt) h).0

-- what an answer of `accept` tells, in the paper's numbers
abbrev refusal_in : Result Chip Refusal → ℕ
refusal_in (Ok chip) = 0
refusal_in (Err r) = number_of r

-- the answer by how the tests of a chip's plan end
abbrev judged : Chip → Bool → Bool → Bool → Bool → Result Chip Refusal
judged c has points temperatures speeds =
    cond has
    (cond points
    (cond temperatures (cond speeds (Ok c) (Err Refusal.SpeedsOutOfOrder)) (Err Refusal.TemperaturesOutOfOrder))
    (Err Refusal.FormNotOfChip))
    (Err Refusal.NoSuchTable)

-- it is the first check that the plan fails
accepted_checks : (plan : Plan) → refusal_in (accepted plan) ≡ first (plan_checks plan)
accepted_checks plan = by_name (chip_of plan.chip) refl
  where
    by_tests : (c : Chip) (has points temperatures speeds : Bool)
        → refusal_in (judged c has points temperatures speeds)
        ≡ first ((not has, 4) ∷ (not points, 16) ∷ (not temperatures, 6) ∷ (not speeds, 7) ∷ [])
    by_tests c true true true true = refl
    by_tests c true true true false = refl
    by_tests c true true false speeds = refl
    by_tests c true false temperatures speeds = refl
    by_tests c false points temperatures speeds = refl

    by_name : (n : Option Chip) → chip_of plan.chip ≡ n → refusal_in (accepted plan) ≡ first (plan_checks plan)
    by_name (Some c) e = rw e (by_tests c (has_table c plan.table) (points_pass c plan) (temperatures_pass c plan) (speeds_pass c plan))
    by_name None e = rw e

pub refused_plan : {plan : Plan} {r : Result Chip Refusal} (q : Refusal) → Accepts plan r → r ≡ Err q → number_of q ≡ first (plan_checks plan)
refused_plan {plan} q p e = ap refusal_in (sym e ∙ p.answer) ∙ accepted_checks plan

pub accepted_plan : {plan : Plan} {r : Result Chip Refusal} (chip : Chip) → Accepts plan r → r ≡ Ok chip → first (plan_checks plan) ≡ 0
accepted_plan {plan} chip p e = sym (ap refusal_in (sym e ∙ p.answer) ∙ accepted_checks plan)

-- and a chip that is told is the plan's
pub accepted_chip : {plan : Plan} {r : Result Chip Refusal} (chip : Chip) → Accepts plan r → r ≡ Ok chip → chip_of plan.chip ≡ Some chip
accepted_chip {plan} {r} chip p e = by_name (chip_of plan.chip) refl (sym p.answer ∙ e)
  where
    by_tests : (c : Chip) (has points temperatures speeds : Bool) → judged c has points temperatures speeds ≡ Ok chip → c ≡ chip
    by_tests c true true true true e = cc
    by_tests c true true true false e = let z : ◌≡◌ {A = ℕ} 0 1 = cc in absurd (omega arith)
    by_tests c true true false speeds e = let z : ◌≡◌ {A = ℕ} 0 1 = cc in absurd (omega arith)
    by_tests c true false temperatures speeds e = let z : ◌≡◌ {A = ℕ} 0 1 = cc in absurd (omega arith)
    by_tests c false points temperatures speeds e = let z : ◌≡◌ {A = ℕ} 0 1 = cc in absurd (omega arith)

    by_name : (n : Option Chip) → chip_of plan.chip ≡ n → when_known n (λ c. accepted_of c plan) (Err Refusal.NoSuchChip) ≡ Ok chip
        → chip_of plan.chip ≡ Some chip
    by_name (Some c) q e = q ∙ ap Some (by_tests c (has_table c plan.table) (points_pass c plan) (temperatures_pass c plan) (speeds_pass c plan) e)
    by_name None q e = let z : ◌≡◌ {A = ℕ} 0 1 = cc in absurd (omega arith)

-- a slope whose duties never fall, none above full: the duty asked never falls as T rises
pub duty_never_falls : (points full : ℕ) (plan : Plan) (t u : ℕ) → So (never_falls (take points plan.slope.duties))
    → Each MoreDuty (fulls full (take points plan.slope.duties)) (take points plan.slope.duties) → degree t ≤ degree u
    → asks (Slope points full) (planned (Slope points full) plan) t ≤ asks (Slope points full) (planned (Slope points full) plan) u
duty_never_falls points full plan t u order bytes h =
    let curve = planned (Slope points full) plan in
    let n = length curve.speeds in
    slope_never_falls full (map degree (take n curve.settings)) curve.speeds (degree (get_or curve.settings n 0)) (degree t) (degree u)
    order bytes h

-- steps whose counts never fall: the count asked never rises as T rises
pub count_never_rises : (plan : Plan) (t u : ℕ) → So (never_falls plan.steps.counts) → length plan.steps.bounds < length plan.steps.counts → t ≤ u
    → asks Steps (planned Steps plan) u ≤ asks Steps (planned Steps plan) t
count_never_rises plan t u order longer h =
    rw (words_halves plan.steps.counts) (steps_never_rises plan.steps.bounds plan.steps.counts t u order longer h)
