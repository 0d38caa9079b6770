-- What the call of `channels` promises for every input: the paper's number, the watch, and every byte of the lent image.
-- Assumes nothing.
use Rattle.std.specs.Prelude.{ℕ, ◌≡◌, List, ◌∷◌, ℤ, Result}
use Rattle.refusal.specs.Checks.{Check, told_or, left}
use Rattle.pages.specs.Cards.{not_an_image}
use Rattle.watch.specs.declared.Watch.{Watch}
use Rattle.watch.specs.declared.Refused.{Refused}
use Rattle.watch.specs.Promises.{sample_checks, tells_sampled}
use Rattle.channels.specs.Channels.{State, sampled}

-- a sample is refused 8, then 12, also where the temperature is disabled
abbrev pub channel_checks : List ℕ → ℤ → List Check
channel_checks image steps = (not_an_image 3 image, 8) ∷ sample_checks steps

-- what an accepted sample leaves of an image and a watch
abbrev pub leaves : List ℕ → Watch → ℤ → List ℕ → State
leaves image watch steps words = sampled steps words (record { image = image; watch = watch })

-- what `channels::sample` promises; a refused call alters no byte and no fact
pub record SamplesChannels (old : List ℕ) (watch : Watch) (steps : ℤ) (words : List ℕ) (r : Result Watch Refused) (new : List ℕ) : Type 0 where
  pub answer : tells_sampled r ≡ told_or watch (channel_checks old steps) (leaves old watch steps words).watch
  pub bytes : new ≡ left (channel_checks old steps) (leaves old watch steps words).image old
