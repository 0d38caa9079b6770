-- Demand 3: whatever plays leave in an image is never slower than the slower of the old curve and the plan, is the plan after the last write, and
-- differs from the old image in the fan table alone. The theorem of Stops told of the answers that callers get, and carried from play to play.
-- Assumes nothing.
use Rattle.std.specs.Prelude.{Result, Option, Ok, Some}
use Rattle.refusal.specs.declared.Refusal.{Refusal}
use Prim.Native.Nat.{ℕ}
use mathlib.Core.Path.{◌≡◌, refl, sym, ap, subst, ◌∙◌}
use mathlib.Core.Bool.{So, cond}
use mathlib.Core.List.{List, [], ◌∷◌, ◌++◌}
use borrow.Author.Tests.{eq-eqb}
use lib.Dec.{eqb}
use lib.ListN.{length, take}
use Rattle.refusal.specs.Checks.{first}
use Rattle.pages.specs.declared.Chip.{Chip}
use Rattle.pages.specs.Cards.{size_of, chip_of, when_known, has_table, shape_of}
use Rattle.identities.specs.Promises.{identity_checks}
use Rattle.curves.specs.declared.Plan.{Plan}
use Rattle.curves.specs.Planned.{Curve, asks}
use Rattle.plans.specs.Plans.{held, planned_for}
use Rattle.plans.specs.Promises.{AsksImage, AsksPlan}
use Rattle.plans.proofs.Laws.{Accepted, passed_plan}
use Rattle.plans.proofs.Unique.{tells_asked_injective}
use Rattle.scripts.specs.Scripts.{Pair, script_of}
use Rattle.scripts.specs.Played.{played, stops, last_of}
use Rattle.scripts.proofs.Bus.{played_length}
use Rattle.plays.specs.Promises.{play_checks, Plays}
use Rattle.plays.specs.NeverSlower.{Demand3, Since, Safely}
use Rattle.plays.proofs.Answers.{image_long}
use Rattle.plays.proofs.NeverRefused.{play_accepted}
use Rattle.plays.proofs.Stops.{stops_length, stops_more, played_keeps_identity, asked_at_stop, held_at_last, kept_outside}

-- what is asked of an image, and of a plan, is a speed
image_speed : {number table t : ℕ} {image : List ℕ} {r : Result ℕ Refusal} (chip : Chip) → chip_of number ≡ Some chip → So (has_table chip table) → length image ≡ size_of chip
    → AsksImage number table image t r → r ≡ Ok (asks (shape_of chip table) (held chip table image) t)
image_speed {number} {table} {t} {image} {r} chip e has long p =
    tells_asked_injective r (Ok (asks (shape_of chip table) (held chip table image) t))
    (p.answer ∙ rw (e, has, eq-eqb (length image) (size_of chip) long))

plan_speed : {plan : Plan} {t : ℕ} {r : Result ℕ Refusal} (chip : Chip) → chip_of plan.chip ≡ Some chip → Accepted chip plan
    → AsksPlan plan t r → r ≡ Ok (asks (shape_of chip plan.table) (planned_for chip plan) t)
plan_speed {plan} {t} {r} chip e accepted p =
    tells_asked_injective r (Ok (asks (shape_of chip plan.table) (planned_for chip plan) t)) (p.answer ∙ rw (e, accepted.has, accepted.points))

-- the image that a play leaves
left_by_play : {plan : Plan} {old new : List ℕ} {count n : ℕ} (chip : Chip) → chip_of plan.chip ≡ Some chip → Plays plan old count (Ok n) new
    → new ≡ played chip (take count (script_of chip plan)) old
left_by_play {plan} {old} {new} {count} chip e p =
    let none : 0 ≡ first (play_checks plan old) = ap (λ (t : ℕ × ℕ). t.0) p.answer in
    p.bytes
    ∙ ap (λ (x : ℕ). cond (eqb x 0) (when_known (chip_of plan.chip) (λ c. played c (take count (script_of c plan)) old) old) old) (sym none)
    ∙ ap (λ (named : Option Chip). when_known named (λ c. played c (take count (script_of c plan)) old) old) e

-- Demand 3 over any list of cuts: whatever plays of an accepted plan leave, one after the other, in an image of its chip.
pub demand_3 : (chip : Chip) (plan : Plan) → chip_of plan.chip ≡ Some chip → Accepted chip plan → (old : List ℕ) → length old ≡ size_of chip
    → (cuts : List ℕ) → Demand3 chip plan old (last_of 0 cuts) (stops (played chip) (script_of chip plan) old cuts)
demand_3 chip plan e accepted old long cuts =
    let has = accepted.has in
    let here : length (stops (played chip) (script_of chip plan) old cuts) ≡ size_of chip = stops_length chip (script_of chip plan) cuts old ∙ long in
    record {
      never_slower = λ t s b q atStop before planned.
          rw (image_speed chip e has here atStop, image_speed chip e has long before, plan_speed chip e accepted planned)
          (asked_at_stop chip plan accepted old long cuts t);
      at_last = λ h t s q atStop planned.
          image_speed chip e has here atStop
          ∙ ap (λ (c : Curve). Ok (asks (shape_of chip plan.table) c t)) (held_at_last chip plan accepted old long cuts (rw e at h))
          ∙ sym (plan_speed chip e accepted planned);
      outside = kept_outside chip plan accepted old long cuts;
      as_long = here ∙ sym long;
    }

-- an image stays confirmed through a play
played_confirmed : (number : ℕ) (chip : Chip) (ws : List Pair) (image : List ℕ) → chip_of number ≡ Some chip
    → first (identity_checks number (played chip ws image)) ≡ first (identity_checks number image)
played_confirmed number chip ws image e =
    let long = played_length chip ws image in
    let kept = played_keeps_identity chip ws image in
    rw (e, long, kept)

-- before the first play
pub since_first : (plan : Plan) (start : List ℕ) → Since plan start [] start
since_first plan start =
    record {
      stop = λ chip e passed confirmed.
          record {
            led = refl;
            safe = demand_3 chip plan e (passed_plan chip plan e passed) start (image_long plan.chip chip start e confirmed) [];
            confirmed = confirmed;
          };
    }

-- and from play to play
pub since_next : {plan : Plan} {old new : List ℕ} {count : ℕ} {r : Result ℕ Refusal} → Plays plan old count r new
    → (start counts : List ℕ) → Since plan start counts old → Since plan start (counts ++ (count ∷ [])) new
since_next {plan} {old} {new} {count} p start counts since =
    record {
      stop = λ chip e passed confirmed.
          let before = since.stop chip e passed confirmed in
          let ws = script_of chip plan in
          let made = left_by_play chip e (subst (λ (s : Result ℕ Refusal). Plays plan old count s new) (play_accepted passed before.confirmed p) p) in
          let led = made ∙ ap (played chip (take count ws)) before.led ∙ sym (stops_more (played chip) ws counts start count) in
          let kept = ap (λ (l : List ℕ). first (identity_checks plan.chip l)) made ∙ played_confirmed plan.chip chip (take count ws) old e in
          record {
            led = led;
            safe =
                subst (Demand3 chip plan start (last_of 0 (counts ++ (count ∷ [])))) (sym led)
                (demand_3 chip plan e (passed_plan chip plan e passed) start (image_long plan.chip chip start e confirmed) (counts ++ (count ∷ [])));
            confirmed = kept ∙ before.confirmed;
          };
    }

-- "Take any accepted plan and any starting image whose identity its chip confirms. Play the plan's script and stop after any number of whole
-- writes, from none to all": the list of one play.
pub plays_safely : {plan : Plan} {old new : List ℕ} {count : ℕ} {r : Result ℕ Refusal} → Plays plan old count r new → Safely plan old count new
plays_safely {plan} {old} p =
    record {
      stop = λ chip e passed confirmed. ((since_next p old [] (since_first plan old)).stop chip e passed confirmed).safe;
      again = since_next p;
    }
