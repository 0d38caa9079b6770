-- Demand 3, in the customer's words, of the very answers that callers get: what `plays::play` leaves in a lent image, and what
-- `plans::asked_of_image` and `plans::asked_of_plan` answer; and what holds of an image from play to play.
-- Assumes nothing.
use Rattle.std.specs.Prelude.{ℕ, ◌≤◌, ◌≡◌, List, [], ◌∷◌, ◌++◌, length, get_or, Result, Ok, Err, Some}
use Rattle.refusal.specs.declared.Refusal.{Refusal}
use Rattle.refusal.specs.Checks.{first}
use Rattle.pages.specs.declared.Chip.{Chip}
use Rattle.pages.specs.declared.Shape.{Shape}
use Rattle.pages.specs.Cards.{chip_of, shape_of}
use Rattle.identities.specs.Promises.{identity_checks}
use Rattle.curves.specs.declared.Plan.{Plan}
use Rattle.curves.specs.Planned.{AsFast, slower}
use Rattle.plans.specs.Promises.{plan_checks, AsksImage, AsksPlan}
use Rattle.scripts.specs.Scripts.{script_of, script_for}
use Rattle.scripts.specs.Played.{played, stops, last_of, touched}
use Rattle.scripts.specs.Rules.{Outside}

-- "never slower than the slower of the old curve and the plan", of three speeds asked; a refusal is none
abbrev pub NeverSlower : Shape → Result ℕ Refusal → Result ℕ Refusal → Result ℕ Refusal → Type 0
NeverSlower shape (Ok stop) (Ok old) (Ok plan) = AsFast shape stop (slower shape old plan)
NeverSlower shape (Ok stop) (Ok old) (Err r) = ⊥
NeverSlower shape (Ok stop) (Err r) plan = ⊥
NeverSlower shape (Err r) old plan = ⊥

-- Demand 3, of a stop: `old` is the image before, `new` the image at the stop, `count` how many writes the last play was asked for.
pub record Demand3 (chip : Chip) (plan : Plan) (old : List ℕ) (count : ℕ) (new : List ℕ) : Type 0 where
  -- "At every temperature of that chip, the speed asked at the stop is never slower than the slower of the old curve and the plan."
  pub never_slower : (t : ℕ) (stop before planned : Result ℕ Refusal)
      → AsksImage plan.chip plan.table new t stop
      → AsksImage plan.chip plan.table old t before
      → AsksPlan plan t planned
      → NeverSlower (shape_of chip plan.table) stop before planned
  -- "After the last write it is exactly the plan's."
  pub at_last : length (script_for plan) ≤ count → (t : ℕ) (stop planned : Result ℕ Refusal)
      → AsksImage plan.chip plan.table new t stop
      → AsksPlan plan t planned
      → stop ≡ planned
  -- "At any stop every byte outside that fan table is as before."
  pub outside : (k : ℕ) → Outside k (touched chip plan.table) → get_or new k 0 ≡ get_or old k 0
  -- and there are as many bytes as before
  pub as_long : length new ≡ length old

-- An image to which plays of a plan led from the very first one. Each play began with the image that the one before it left, and `counts` says after
-- how many writes each stopped.
pub record Reached (chip : Chip) (plan : Plan) (start counts image : List ℕ) : Type 0 where
  pub led : image ≡ stops (played chip) (script_of chip plan) start counts
  -- demand 3 "of the very first curve and the plan", at the plan "when the last play completes"
  pub safe : Demand3 chip plan start (last_of 0 counts) image
  -- the chip confirms it still, so that the next play is not refused
  pub confirmed : first (identity_checks plan.chip image) ≡ 0

-- The same of every accepted plan and every first image whose identity its chip confirms: what holds of an image since the first one.
pub record Since (plan : Plan) (start counts image : List ℕ) : Type 0 where
  pub stop : (chip : Chip) → chip_of plan.chip ≡ Some chip → first (plan_checks plan) ≡ 0 → first (identity_checks plan.chip start) ≡ 0
      → Reached chip plan start counts image

-- What `plays::play` promises of a stop, beside its answer and its bytes: "Take any plan our rules accept and any starting
-- image whose identity its chip confirms. Play the plan's script, and stop after any number of whole writes, from none to all."
pub record Safely (plan : Plan) (old : List ℕ) (count : ℕ) (new : List ℕ) : Type 0 where
  pub stop : (chip : Chip) → chip_of plan.chip ≡ Some chip → first (plan_checks plan) ≡ 0 → first (identity_checks plan.chip old) ≡ 0
      → Demand3 chip plan old count new
  -- to one that plays again: what holds of the image before a play holds after it
  pub again : (start counts : List ℕ) → Since plan start counts old → Since plan start (counts ++ (count ∷ [])) new
