-- What a read and a reset answer and leave, refused and accepted, by the number of the chip.
-- Assumes nothing.
use Rattle.std.specs.Prelude.{Result, Ok, Err, Option, Some}
use Prim.Native.Nat.{ℕ}
use mathlib.Core.Path.{◌≡◌, sym, ap, ap₂, ◌∙◌}
use mathlib.Core.List.{List}
use Rattle.refusal.specs.declared.Refusal.{Refusal}
use Rattle.refusal.specs.Refusals.{number_of}
use Rattle.refusal.specs.Checks.{first}
use Rattle.refusal.proofs.Passed.{when_passed, when_refused}
use Rattle.pages.specs.declared.Chip.{Chip}
use Rattle.pages.specs.Cards.{chip_of, when_known}
use Rattle.images.specs.Bytes.{seen}
use Rattle.images.specs.Promises.{image_checks}
use Rattle.watch.specs.declared.Watch.{Watch}
use Rattle.channels.specs.Channels.{State}
use Rattle.watch.specs.declared.Refused.{Refused}
use Rattle.states.specs.States.{after_read, rested, after_reset}
use Rattle.states.specs.Promises.{tells_byte, left_of, ReadsByte, ResetsChip}

module _ (number : ℕ) (old : List ℕ) (watch : Watch) where
  abbrev state : State
  state = record { image = old; watch = watch }

  -- the number's chip is known
  on : (chip : Chip) (step : Chip → State → State) → chip_of number ≡ Some chip → step chip state ≡ left_of number step old watch
  on chip step named = sym (ap (λ (n : Option Chip). when_known n (λ c. step c state) state) named)

  pub read_refused : (address : ℕ) (refusal : Refusal) → number_of refusal ≡ first (image_checks number old)
      → ReadsByte number old address watch (Err (record { refusal = refusal; watch = watch })) old
  read_refused address refusal e =
      let left = left_of number (λ c. after_read c address) old watch in
      record {
        answer = ap₂ (λ (n : ℕ) (t : ℕ × Watch). (n, t)) e
            (when_refused refusal (when_known (chip_of number) (λ c. seen c address old) 0, left.watch) (0, watch) e);
        bytes = when_refused refusal left.image old e;
      }

  pub read_accepted : (chip : Chip) (address : ℕ) (r : Result (ℕ × Watch) Refused) (new : List ℕ) → chip_of number ≡ Some chip → first (image_checks number old) ≡ 0
      → tells_byte r ≡ (0, (seen chip address old, (after_read chip address state).watch)) → new ≡ (after_read chip address state).image
      → ReadsByte number old address watch r new
  read_accepted chip address r new named none e h =
      let left = left_of number (λ c. after_read c address) old watch in
      let same = on chip (λ c. after_read c address) named in
      let byte = sym (ap (λ (n : Option Chip). when_known n (λ c. seen c address old) 0) named) in
      record {
        answer = e
            ∙ ap₂ (λ (n : ℕ) (t : ℕ × Watch). (n, t)) (sym none)
            (ap₂ (λ (b : ℕ) (s : State). (b, s.watch)) byte same
            ∙ when_passed (when_known (chip_of number) (λ c. seen c address old) 0, left.watch) (0, watch) none);
        bytes = h ∙ ap (λ (s : State). s.image) same ∙ when_passed left.image old none;
      }

  pub reset_refused : (refusal : Refusal) → number_of refusal ≡ first (image_checks number old)
      → ResetsChip number old watch (Err (record { refusal = refusal; watch = watch })) old
  reset_refused refusal e =
      let left = left_of number after_reset old watch in
      record {
        answer = ap₂ (λ (n : ℕ) (w : Watch). (n, w)) e (when_refused refusal left.watch watch e);
        bytes = when_refused refusal left.image old e;
      }

  pub reset_accepted : (chip : Chip) (next : Watch) (new : List ℕ) → chip_of number ≡ Some chip → first (image_checks number old) ≡ 0
      → next ≡ rested chip watch → new ≡ (after_reset chip state).image → ResetsChip number old watch (Ok next) new
  reset_accepted chip next new named none e h =
      let left = left_of number after_reset old watch in
      let same = on chip after_reset named in
      record {
        answer = ap₂ (λ (n : ℕ) (w : Watch). (n, w)) (sym none) (e ∙ ap (λ (s : State). s.watch) same ∙ when_passed left.watch watch none);
        bytes = h ∙ ap (λ (s : State). s.image) same ∙ when_passed left.image old none;
      }
