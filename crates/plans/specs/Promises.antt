-- What the calls of `plans` check, in the paper's order, and promise.
-- Assumes nothing.
use Rattle.std.specs.Prelude.{ℕ, ◌≡◌, Bool, true, not, List, [], ◌∷◌, ◌++◌, Result, ⊤}
use Rattle.pages.specs.declared.Chip.{Chip}
use Rattle.refusal.specs.declared.Refusal.{Refusal}
use Rattle.refusal.specs.Answers.{tells, tells_or}
use Rattle.refusal.specs.Checks.{Check, first, told}
use Rattle.pages.specs.Cards.{chip_of, when_known, unknown, no_table, not_an_image, shape_of}
use Rattle.curves.specs.declared.Plan.{Plan}
use Rattle.curves.specs.Planned.{asks}
use Rattle.plans.specs.Plans.{held, planned_for, points_pass, temperatures_pass, speeds_pass, accepted}

-- refusal 16: "A chip 5 plan handed in that carries a point count is refused 16 for it too"
abbrev pub points_out : Plan → Bool
points_out plan = not (when_known (chip_of plan.chip) (λ c. points_pass c plan) true)

-- refusal 6: "temperatures of the plan are out of order", or a register cannot hold one
abbrev pub temperatures_out : Plan → Bool
temperatures_out plan = not (when_known (chip_of plan.chip) (λ c. temperatures_pass c plan) true)

-- refusal 7: "duties or counts of the plan are out of order", or a register cannot hold one
abbrev pub speeds_out : Plan → Bool
speeds_out plan = not (when_known (chip_of plan.chip) (λ c. speeds_pass c plan) true)

-- "Asking a speed .. of a plan 3 and 4, never 6 or 7"; and 16, "straight after 4"
abbrev pub ask_plan_checks : Plan → List Check
ask_plan_checks plan = (unknown plan.chip, 3) ∷ (no_table plan.chip plan.table, 4) ∷ (points_out plan, 16) ∷ []

abbrev pub order_checks : Plan → List Check
order_checks plan = (temperatures_out plan, 6) ∷ (speeds_out plan, 7) ∷ []

-- "checks the plan by 3, 4, 6, 7", with 16 "straight after 4"
abbrev pub plan_checks : Plan → List Check
plan_checks plan = ask_plan_checks plan ++ order_checks plan

-- the paper's number and the speed of an answer
abbrev pub tells_asked : Result ℕ Refusal → ℕ × ℕ
tells_asked r = tells_or 0 r

-- what `plans::accept` promises: the plan's chip, or the first check that it fails (`accepted_checks`)
pub record Accepts (plan : Plan) (r : Result Chip Refusal) : Type 0 where
  pub answer : r ≡ accepted plan

-- what `plans::judge` promises
pub record Judges (plan : Plan) (r : Result ⊤ Refusal) : Type 0 where
  pub answer : tells r ≡ first (plan_checks plan)

-- what a call that asks a speed of a plan promises, by its own list of checks ..
pub record AsksPlanBy (checks : List Check) (plan : Plan) (t : ℕ) (r : Result ℕ Refusal) : Type 0 where
  pub answer : tells_asked r ≡ told checks (when_known (chip_of plan.chip) (λ c. asks (shape_of c plan.table) (planned_for c plan) t) 0)

-- .. and so what `plans::asked_of_plan` promises
abbrev pub AsksPlan : Plan → ℕ → Result ℕ Refusal → Type 0
AsksPlan plan t r = AsksPlanBy (ask_plan_checks plan) plan t r

-- "Asking a speed of an image checks 3, 4 and 8"
abbrev pub ask_image_checks : ℕ → ℕ → List ℕ → List Check
ask_image_checks chip table image = (unknown chip, 3) ∷ (no_table chip table, 4) ∷ (not_an_image chip image, 8) ∷ []

-- what `plans::asked_of_image` promises. The image is only read, so it holds what it held.
pub record AsksImage (chip table : ℕ) (image : List ℕ) (t : ℕ) (r : Result ℕ Refusal) : Type 0 where
  pub answer :
      tells_asked r
      ≡ told (ask_image_checks chip table image)
      (when_known (chip_of chip) (λ c. asks (shape_of c table) (held c table image) t) 0)
