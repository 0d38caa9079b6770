-- What each answer of `play` knows is what its contract asks: the plan is refused, the image is not confirmed, or the writes are made.
-- Assumes nothing.
use Rattle.std.specs.Prelude.{Ok, Err, Some}
use Prim.Native.Nat.{ℕ, min}
use mathlib.Core.Path.{◌≡◌, refl, sym, ap, ◌∙◌}
use mathlib.Core.List.{List}
use borrow.Author.Tests.{eqb-true, not-false}
use lib.Dec.{eqb}
use lib.ListN.{length, take}
use Rattle.refusal.specs.declared.Refusal.{Refusal}
use Rattle.refusal.specs.Refusals.{number_of}
use Rattle.refusal.specs.Checks.{first}
use Rattle.refusal.proofs.Passed.{all_passed, first_passed, when_passed, when_refused, told_passed, told_refused}
use Rattle.pages.specs.declared.Chip.{Chip}
use Rattle.pages.specs.Cards.{chip_of, when_known, size_of}
use Rattle.identities.specs.Promises.{identity_checks, Confirms}
use Rattle.curves.specs.declared.Plan.{Plan}
use Rattle.plans.specs.Promises.{plan_checks}
use Rattle.scripts.specs.Scripts.{placements, script_of, script_for}
use Rattle.scripts.specs.Played.{played}
use Rattle.scripts.specs.Promises.{Makes}
use Rattle.scripts.proofs.Answers.{still_refused}
use Rattle.scripts.proofs.Bus.{bus_cut}
use Rattle.scripts.proofs.Prepared.{placements_stand}
use Rattle.plays.specs.Promises.{start_checks, play_checks, Plays}

-- an image that a chip confirms is as long as its images
pub image_long : (number : ℕ) (chip : Chip) (image : List ℕ) → chip_of number ≡ Some chip → first (identity_checks number image) ≡ 0
    → length image ≡ size_of chip
image_long number chip image e confirmed =
    eqb-true (length image) (size_of chip)
    (not-false (eqb (length image) (size_of chip)) (rw e at (all_passed (identity_checks number image) refl confirmed).1.0))

module _ (plan : Plan) (image : List ℕ) (count : ℕ) where
  abbrev writes : ℕ
  writes = min count (length (script_for plan))

  pub play_refused : (r : Refusal) → number_of r ≡ first (plan_checks plan) → Plays plan image count (Err r) image
  play_refused r e =
      let all = still_refused r (plan_checks plan) (start_checks plan image) e in
      record { answer = told_refused r (play_checks plan image) writes all; bytes = when_refused r _ image all }

  -- the chip of an accepted plan is known, so identity asks no more than play does
  pub same_checks : first (plan_checks plan) ≡ 0 → first (play_checks plan image) ≡ first (identity_checks plan.chip image)
  same_checks e =
      first_passed (plan_checks plan) (start_checks plan image) refl e
      ∙ sym (rw (all_passed (plan_checks plan) refl e).0)

  pub play_unconfirmed : (r : Refusal) → first (plan_checks plan) ≡ 0 → Confirms plan.chip image (Err r)
      → Plays plan image count (Err r) image
  play_unconfirmed r e c =
      let all : number_of r ≡ first (play_checks plan image) = c.answer ∙ sym (same_checks e) in
      record { answer = told_refused r (play_checks plan image) writes all; bytes = when_refused r _ image all }

  pub play_made : {n : ℕ} {new : List ℕ} (chip : Chip) → chip_of plan.chip ≡ Some chip → first (plan_checks plan) ≡ 0
      → Confirms plan.chip image (Ok tt) → Makes chip plan count image n new → Plays plan image count (Ok n) new
  play_made {n} {new} chip named e c m =
      let none : first (play_checks plan image) ≡ 0 = same_checks e ∙ sym c.answer in
      let all : n ≡ writes = m.answer ∙ rw named in
      let long = image_long plan.chip chip image named (sym c.answer) in
      let landed = sym (bus_cut chip (placements chip plan) image (placements_stand chip plan) long count) in
      let bytes : new ≡ when_known (chip_of plan.chip) (λ c. played c (take count (script_of c plan)) image) image = m.bytes ∙ landed ∙ rw named in
      record {
        answer = ap (λ (k : ℕ). (0, k)) all ∙ told_passed (play_checks plan image) writes none;
        bytes = bytes ∙ when_passed _ image none;
      }
