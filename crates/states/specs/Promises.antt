-- What the calls of `states` promise for every input: the paper's number, the byte, the watch, and every byte of the lent image.
-- Assumes nothing.
use Rattle.std.specs.Prelude.{ℕ, ◌≡◌, List, Result, Ok, Err}
use Rattle.refusal.specs.Refusals.{number_of}
use Rattle.refusal.specs.Checks.{told_or, left}
use Rattle.pages.specs.declared.Chip.{Chip}
use Rattle.pages.specs.Cards.{chip_of, when_known}
use Rattle.images.specs.Bytes.{seen}
use Rattle.images.specs.Promises.{image_checks}
use Rattle.watch.specs.declared.Watch.{Watch}
use Rattle.watch.specs.Promises.{tells_sampled}
use Rattle.channels.specs.Channels.{State}
use Rattle.watch.specs.declared.Refused.{Refused}
use Rattle.states.specs.States.{after_read, after_reset}

-- the paper's number, the byte and the watch of an answer
abbrev pub tells_byte : Result (ℕ × Watch) Refused → ℕ × (ℕ × Watch)
tells_byte (Ok (b, watch)) = (0, (b, watch))
tells_byte (Err refused) = (number_of refused.refusal, (0, refused.watch))

abbrev pub tells_reset : Result Watch Refused → ℕ × Watch
tells_reset r = tells_sampled r

-- what an accepted call leaves of an image and a watch, by the number of the chip
abbrev pub left_of : ℕ → (Chip → State → State) → List ℕ → Watch → State
left_of chip step image watch =
    let state : State = record { image = image; watch = watch } in
    when_known (chip_of chip) (λ c. step c state) state

-- what `states::read` promises; a refused call alters no byte and no fact
pub record ReadsByte (chip : ℕ) (old : List ℕ) (address : ℕ) (watch : Watch) (r : Result (ℕ × Watch) Refused) (new : List ℕ) : Type 0 where
  pub answer : tells_byte r
      ≡ told_or (0, watch) (image_checks chip old) (when_known (chip_of chip) (λ c. seen c address old) 0, (left_of chip (λ c. after_read c address) old watch).watch)
  pub bytes : new ≡ left (image_checks chip old) (left_of chip (λ c. after_read c address) old watch).image old

-- what `states::reset` promises
pub record ResetsChip (chip : ℕ) (old : List ℕ) (watch : Watch) (r : Result Watch Refused) (new : List ℕ) : Type 0 where
  pub answer : tells_reset r ≡ told_or watch (image_checks chip old) (left_of chip after_reset old watch).watch
  pub bytes : new ≡ left (image_checks chip old) (left_of chip after_reset old watch).image old
