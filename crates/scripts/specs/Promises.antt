-- What the calls of `scripts` check, in the paper's order, and promise.
-- Assumes nothing.
use Rattle.std.specs.Prelude.{ℕ, ◌*◌, min, ◌≡◌, List, ◌++◌, length, take, drop, Result}
use Rattle.refusal.specs.declared.Refusal.{Refusal}
use Rattle.refusal.specs.Answers.{tells_amount}
use Rattle.refusal.specs.Checks.{Check, told, left, room_checks}
use Rattle.pages.specs.declared.Chip.{Chip}
use Rattle.curves.specs.declared.Plan.{Plan}
use Rattle.plans.specs.Promises.{plan_checks}
use Rattle.scripts.specs.Scripts.{placements, routed, flat, script_of, script_for}
use Rattle.scripts.specs.Played.{laid}

-- "Writing .. a script checks the plan by 3, 4, 6, 7 and then 9"
abbrev pub script_checks : Plan → List ℕ → List Check
script_checks plan out = plan_checks plan ++ room_checks (2 * length (script_for plan)) out

-- what a call that writes a plan's script promises, by its own list of checks: "The answer says how many writes"; "An output longer than the
-- result keeps its tail." ..
pub record ScriptsBy (checks : List Check) (plan : Plan) (old : List ℕ) (r : Result ℕ Refusal) (new : List ℕ) : Type 0 where
  pub answer : tells_amount r ≡ told checks (length (script_for plan))
  pub bytes : new ≡ left checks (flat (script_for plan) ++ drop (2 * length (script_for plan)) old) old

-- .. and so what `scripts::script` promises
abbrev pub Scripts : Plan → List ℕ → Result ℕ Refusal → List ℕ → Type 0
Scripts plan old r new = ScriptsBy (script_checks plan old) plan old r new

-- what `scripts::make` promises, which checks nothing: the first writes of a plan's script, as many as `count` says, "a number above the script's
-- length means all", made on an image of any length, each at the position of its register
pub record Makes (chip : Chip) (plan : Plan) (count : ℕ) (old : List ℕ) (r : ℕ) (new : List ℕ) : Type 0 where
  pub answer : r ≡ min count (length (script_of chip plan))
  pub bytes : new ≡ laid chip (take count (routed chip (placements chip plan))) old
