-- When a sample of the chip is refused, 8 by the image's length, then 12 as the watch refuses it, and what a refused one and one that is taken leave.
-- Assumes nothing.
use Rattle.std.specs.Prelude.{Ok, Err}
use Prim.Native.Nat.{ℕ}
use mathlib.Core.Path.{◌≡◌, refl, sym, ap, ap₂, ◌∙◌}
use mathlib.Core.Bool.{Bool, true, false, cond, not}
use mathlib.Core.List.{List}
use borrow.Author.Tests.{eq-eqb, ne_eqb}
use lib.Dec.{eqb}
use lib.IntN.{ℤ}
use lib.ListN.{length}
use Rattle.refusal.specs.declared.Refusal.{Refusal}
use Rattle.refusal.specs.Refusals.{number_of}
use Rattle.refusal.specs.Checks.{first}
use Rattle.refusal.proofs.Numbers.{not_accepted}
use Rattle.refusal.proofs.Passed.{when_passed, when_refused}
use Rattle.pages.specs.Nct80.{hot_limit, hysteresis_limit}
use Rattle.pages.specs.Cards.{sheet_of, chip_of, when_known, size_of}
use Rattle.watch.specs.declared.Watch.{Watch}
use Rattle.watch.specs.Alarm.{is_sample, taken}
use Rattle.watch.specs.Promises.{sample_checks}
use Rattle.channels.specs.Channels.{State, voltages_taken, limit_in, fed, temperature_taken, sampled}
use Rattle.channels.specs.Promises.{channel_checks, leaves, SamplesChannels}

sized : when_known (chip_of 3) size_of 0 ≡ 256
unfolding sheet_of
sized = refl

module _ (image : List ℕ) (steps : ℤ) where
  by_size : {b : Bool} → eqb (length image) 256 ≡ b → first (channel_checks image steps) ≡ cond (not b) 8 (first (sample_checks steps))
  by_size e = ap (λ (b : Bool). cond (not b) 8 (first (sample_checks steps))) (ap (eqb (length image)) sized ∙ e)

  pub of_another_size : (length image ≡ 256 → ⊥) → first (channel_checks image steps) ≡ 8
  of_another_size h = by_size (ne_eqb (length image) 256 h)

  pub of_its_size : length image ≡ 256 → first (channel_checks image steps) ≡ first (sample_checks steps)
  of_its_size h = by_size (eq-eqb (length image) 256 h)

-- a sample that the watch refuses leaves it
pub unfed : (steps : ℤ) (state : State) (refusal : Refusal) → number_of refusal ≡ first (sample_checks steps) → fed steps state ≡ state.watch
unfed steps state refusal = by_test (is_sample steps)
  where
    by_test : (b : Bool) → number_of refusal ≡ cond (not b) 12 0
        → cond b (taken state.watch steps (limit_in hot_limit state.image) (limit_in hysteresis_limit state.image)) state.watch ≡ state.watch
    by_test true e = absurd (not_accepted refusal (sym e))
    by_test false e = refl

module _ (old : List ℕ) (watch : Watch) (steps : ℤ) (words : List ℕ) where
  -- a refused sample leaves everything ..
  pub refused_sample : (refusal : Refusal) → number_of refusal ≡ first (channel_checks old steps) → SamplesChannels old watch steps words (Err (record { refusal = refusal; watch = watch })) old
  refused_sample refusal e =
      record {
        answer = ap₂ (λ (n : ℕ) (w : Watch). (n, w)) e (when_refused refusal (leaves old watch steps words).watch watch e);
        bytes = when_refused refusal (leaves old watch steps words).image old e;
      }

  -- .. and one that is taken is the temperature and then the voltages
  pub taken_sample : (middle new : List ℕ) (next : Watch) → first (channel_checks old steps) ≡ 0
      → ◌≡◌ {A = State} (record { image = middle; watch = next }) (temperature_taken steps (record { image = old; watch = watch })) → new ≡ voltages_taken 7 words middle
      → SamplesChannels old watch steps words (Ok next) new
  unfolding sampled
  taken_sample middle new next none e h =
      record {
        answer = ap₂ (λ (n : ℕ) (w : Watch). (n, w)) (sym none)
            (ap (λ (s : State). s.watch) e ∙ when_passed (leaves old watch steps words).watch watch none);
        bytes = h ∙ ap (λ (s : State). voltages_taken 7 words s.image) e ∙ when_passed (leaves old watch steps words).image old none;
      }
