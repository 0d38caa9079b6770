-- What the calls of `watch` promise for every input: the paper's number and values for each case of an answer, and a record for each call.
-- Assumes nothing.
use Rattle.std.specs.Prelude.{ℕ, ◌≡◌, Bool, not, List, [], ◌∷◌, ℤ, Result, Ok, Err}
use Rattle.refusal.specs.Checks.{Check, first}
use Rattle.refusal.specs.Refusals.{number_of}
use Rattle.watch.specs.declared.Behaviour.{Behaviour}
use Rattle.watch.specs.declared.Watch.{Watch}
use Rattle.watch.specs.declared.Refused.{Refused}
use Rattle.watch.specs.Alarm.{fresh, is_sample, acknowledged, shown, sample, after, run, recorded}

-- "may be refused by 12 only"
abbrev pub sample_checks : ℤ → List Check
sample_checks steps = (not (is_sample steps), 12) ∷ []

-- the paper's number, 0 where the sample is accepted, and the watch of each case
abbrev pub tells_sampled : Result Watch Refused → ℕ × Watch
tells_sampled (Ok watch) = (0, watch)
tells_sampled (Err refused) = (number_of refused.refusal, refused.watch)

-- what `watch::Watch::new` promises
pub record Starts (behaviour : Behaviour) (r : Watch) : Type 0 where
  pub answer : r ≡ fresh behaviour

-- what `watch::Watch::sample` promises: "A refusal returns its number .. (a watch comes back unchanged)"
pub record Samples (watch : Watch) (steps high hysteresis : ℤ) (r : Result Watch Refused) : Type 0 where
  pub answer : tells_sampled r ≡ (first (sample_checks steps), after watch (sample steps high hysteresis))

-- what `watch::Watch::acknowledge` promises
pub record Acknowledges (watch r : Watch) : Type 0 where
  pub answer : r ≡ acknowledged watch

-- what `watch::Watch::output` promises
pub record Shows (watch : Watch) (r : Bool) : Type 0 where
  pub answer : r ≡ shown watch.behaviour watch.hot watch.pending

-- what `watch::Watch::run` promises: each sample in turn, with the same limits; a refused sample changes nothing and the run goes on
pub record Runs (watch : Watch) (samples : List ℤ) (high hysteresis : ℤ) (r : Watch) : Type 0 where
  pub answer : r ≡ run watch (recorded high hysteresis samples)
