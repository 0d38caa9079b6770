-- What `plays::play` checks, in the paper's order, and promises beside `Safely`.
-- Assumes nothing.
use Rattle.std.specs.Prelude.{ℕ, min, ◌≡◌, List, [], ◌∷◌, ◌++◌, length, take, Result}
use Rattle.refusal.specs.declared.Refusal.{Refusal}
use Rattle.refusal.specs.Answers.{tells_amount}
use Rattle.refusal.specs.Checks.{Check, told, left}
use Rattle.pages.specs.Cards.{chip_of, when_known, not_an_image}
use Rattle.identities.specs.Identities.{unconfirmed}
use Rattle.curves.specs.declared.Plan.{Plan}
use Rattle.plans.specs.Promises.{plan_checks}
use Rattle.scripts.specs.Scripts.{script_of, script_for}
use Rattle.scripts.specs.Played.{played}

-- "playing a script checks 3, 4, 6, 7, 8, 10 and no 9": the plan, then the starting image
abbrev pub start_checks : Plan → List ℕ → List Check
start_checks plan image = (not_an_image plan.chip image, 8) ∷ (unconfirmed plan.chip image, 10) ∷ []

abbrev pub play_checks : Plan → List ℕ → List Check
play_checks plan image = plan_checks plan ++ start_checks plan image

-- what a call that plays a plan's script promises, by its own list of checks: "a number above the script's length means all. It answers how many
-- it made." ..
pub record PlaysBy (checks : List Check) (plan : Plan) (old : List ℕ) (count : ℕ) (r : Result ℕ Refusal) (new : List ℕ) : Type 0 where
  pub answer : tells_amount r ≡ told checks (min count (length (script_for plan)))
  pub bytes : new ≡ left checks (when_known (chip_of plan.chip) (λ c. played c (take count (script_of c plan)) old) old) old

-- .. and so what `plays::play` promises
abbrev pub Plays : Plan → List ℕ → ℕ → Result ℕ Refusal → List ℕ → Type 0
Plays plan old count r new = PlaysBy (play_checks plan old) plan old count r new
