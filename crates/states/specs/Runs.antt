-- A run of samples, reads, writes and resets is the single steps in turn: what calls on one state leave, each made on the image and the
-- watch that the one before left.
-- Assumes nothing.
use Rattle.std.specs.Prelude.{ℕ, ◌≡◌, cond, List, [], ◌∷◌, eqb, ℤ, Result, ⊤}
use Rattle.refusal.specs.declared.Refusal.{Refusal}
use Rattle.refusal.specs.Checks.{Check, first}
use Rattle.pages.specs.declared.Chip.{Chip}
use Rattle.images.specs.Bytes.{written}
use Rattle.images.specs.Promises.{image_checks, WritesByte}
use Rattle.watch.specs.declared.Watch.{Watch}
use Rattle.watch.specs.declared.Refused.{Refused}
use Rattle.watch.specs.Promises.{tells_sampled}
use Rattle.channels.specs.Channels.{State, sampled}
use Rattle.channels.specs.Promises.{channel_checks, SamplesChannels}
use Rattle.states.specs.States.{after_read, after_reset}
use Rattle.states.specs.Promises.{tells_byte, tells_reset, left_of, ReadsByte, ResetsChip}

-- what is done to a state: a sample of steps and words, a read of an address, a write of a byte to one, a reset
pub data Event : Type 0 where
  sample : ℤ → List ℕ → Event
  read : ℕ → Event
  write : ℕ → ℕ → Event
  reset : Event

-- a refused call alters no byte and no fact
abbrev pub unless_refused : List Check → State → State → State
unless_refused checks new old = cond (eqb (first checks) 0) new old

-- a write has no watch, and leaves its facts
abbrev pub after_write : Chip → ℕ → ℕ → State → State
after_write chip address byte state = record { image = written chip address byte state.image; watch = state.watch }

-- what is done to an image of the chip that a number names; a sample is of chip 3
abbrev pub on_chip : ℕ → (Chip → State → State) → State → State
on_chip chip step state = unless_refused (image_checks chip state.image) (left_of chip step state.image state.watch) state

abbrev pub after : ℕ → State → Event → State
after chip state (sample steps words) = unless_refused (channel_checks state.image steps) (sampled steps words state) state
after chip state (read address) = on_chip chip (λ c. after_read c address) state
after chip state (write address byte) = on_chip chip (λ c. after_write c address byte) state
after chip state reset = on_chip chip after_reset state

-- the single steps in turn
abbrev pub run : ℕ → State → List Event → State
run chip state [] = state
run chip state (e ∷ es) = run chip (after chip state e) es

-- a call of the library that does an event, on one state and with another left
abbrev pub Called : ℕ → State → Event → State → Type 0
Called chip old (sample steps words) new =
    (r : Result Watch Refused) × (SamplesChannels old.image old.watch steps words r new.image × ((tells_sampled r).1 ≡ new.watch))
Called chip old (read address) new =
    (r : Result (ℕ × Watch) Refused) × (ReadsByte chip old.image address old.watch r new.image × ((tells_byte r).1.1 ≡ new.watch))
Called chip old (write address byte) new = (r : Result ⊤ Refusal) × (WritesByte chip old.image address byte r new.image × (old.watch ≡ new.watch))
Called chip old reset new = (r : Result Watch Refused) × (ResetsChip chip old.image old.watch r new.image × ((tells_reset r).1 ≡ new.watch))

-- such calls one after the other
abbrev pub CalledInTurn : ℕ → State → List Event → State → Type 0
CalledInTurn chip old [] new = old ≡ new
CalledInTurn chip old (e ∷ es) new = (middle : State) × (Called chip old e middle × CalledInTurn chip middle es new)
