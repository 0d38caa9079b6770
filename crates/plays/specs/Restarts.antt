-- "Restart after a hang": a plan's script "cut anywhere, any number of times, and then started afresh", in the customer's words, of the very answers
-- that callers get.
-- Assumes nothing.
use Rattle.std.specs.Prelude.{ℕ, min, ◌≡◌, List, [], ◌∷◌, map, length, Result, Ok, Some}
use Rattle.refusal.specs.declared.Refusal.{Refusal}
use Rattle.refusal.specs.Checks.{first}
use Rattle.pages.specs.declared.Chip.{Chip}
use Rattle.pages.specs.Cards.{chip_of}
use Rattle.identities.specs.Promises.{identity_checks}
use Rattle.curves.specs.declared.Plan.{Plan}
use Rattle.plans.specs.Promises.{plan_checks}
use Rattle.scripts.specs.Scripts.{script_for}
use Rattle.scripts.specs.Played.{last_of}
use Rattle.plays.specs.Promises.{Plays}
use Rattle.plays.specs.NeverSlower.{Demand3}

-- a call of `plays::play`: how many writes it was asked for, what it answered, and the image that it left
pub record Play : Type 0 where
  pub count : ℕ
  pub answer : Result ℕ Refusal
  pub image : List ℕ

-- "all plays of one plan", each on the image that the one before it left, nobody else writing in between
abbrev pub Replayed : Plan → List ℕ → List Play → Type 0
Replayed plan image [] = Unit {0}
Replayed plan image (p ∷ ps) = Plays plan image p.count p.answer p.image × Replayed plan p.image ps

-- the image at the last stop
abbrev pub image_after : List ℕ → List Play → List ℕ
image_after image [] = image
image_after image (p ∷ ps) = image_after p.image ps

-- no play was refused: each made as many writes as it was asked for, or all
abbrev pub NoneRefused : Plan → List Play → Type 0
NoneRefused plan [] = Unit {0}
NoneRefused plan (p ∷ ps) = (p.answer ≡ Ok (min p.count (length (script_for plan)))) × NoneRefused plan ps

-- "Same premises as demand 3": an accepted plan, and a first image whose identity its chip confirms. Then after any list of plays, and so at every
-- stop, the last image and the very first one are as demand 3 says ("never asks slower than the slower of the very first curve and the plan, and
-- ends at the plan when the last play completes"), and no play was refused.
pub record Restarts : Type 0 where
  pub stop : (chip : Chip) (plan : Plan) (start : List ℕ) (plays : List Play)
      → chip_of plan.chip ≡ Some chip → first (plan_checks plan) ≡ 0 → first (identity_checks plan.chip start) ≡ 0
      → Replayed plan start plays
      → Demand3 chip plan start (last_of 0 (map (λ p. p.count) plays)) (image_after start plays) × NoneRefused plan plays
