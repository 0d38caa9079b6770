-- What a host engineer relies on, of a sample: a voltage within its limits raises nothing, a status bit that is on stays on, every byte but those of the
-- readings and the status stays, the temperature is held, and the alarm's facts are those of the base's watch.
-- Assumes nothing.
use Prim.Native.Nat.{ℕ, zero, suc, ◌+◌, ◌*◌, ◌/◌, ◌%◌, ◌^◌, ◌<◌, ◌≤◌, min, max}
use native.Mathlib.Omega.{arith}
use mathlib.Core.Path.{◌≡◌, refl, sym, ap, ap₂, subst, ◌∙◌}
use mathlib.Core.Bool.{Bool, true, false, cond, not, ◌||◌}
use mathlib.Core.List.{List}
use mathlib.Core.Logic.{◌⊎◌, inl, inr}
use borrow.Author.Tests.{le-ltb, ltb-true, ltb-false, eqb-true, eqb-false, ne_eqb, not-true}
use lib.Arith.{bin_ind}
use lib.Bits.{bit_and, bit_or, and_step, or_step, and_zero_r}
use lib.Dec.{eqb, ltb}
use lib.IntN.{ℤ, pos}
use lib.ListN.{length, get_or, set}
use lib.Seq.{get_or-set_same, get_or-set_other, set_out}
use Rattle.pages.specs.Nct80.{temperature, reading_at, high_limit_at, low_limit_at, hot_limit, hysteresis_limit}
use Rattle.readings.specs.Readings.{bits, steps_from, bytes_from, fits}
use Rattle.readings.specs.Sensors.{temperature_in, ignored, with_temperature}
use Rattle.readings.proofs.Sensors.{Stored, tested, temperature_stored}
use Rattle.watch.specs.declared.Watch.{Watch}
use Rattle.watch.specs.Alarm.{shown, sample, after}
use Rattle.channels.specs.Channels.{State, is_on, disabled, raised, beyond, voltage_taken, voltages_taken, limit_in, fed, above_os, temperature_taken, sampled}
use Rattle.channels.proofs.Turns.{voltage_disabled, voltage_enabled, temperature_disabled, temperature_enabled}

-- "A voltage exactly at a limit raises nothing", and none between the two ..
pub within_limits : (high low word : ℕ) → 4 * low ≤ bits 15 6 word → bits 15 6 word ≤ 4 * high → beyond high low word ≡ false
within_limits high low word h k = ap₂ ◌||◌ (le-ltb (4 * high) (bits 15 6 word) k) (le-ltb (bits 15 6 word) (4 * low) h)

pub at_the_high_limit : (high low word : ℕ) → low ≤ high → bits 15 6 word ≡ 4 * high → beyond high low word ≡ false
at_the_high_limit high low word h e = within_limits high low word (omega (arith, h, e)) (omega (arith, e))

pub at_the_low_limit : (high low word : ℕ) → low ≤ high → bits 15 6 word ≡ 4 * low → beyond high low word ≡ false
at_the_low_limit high low word h e = within_limits high low word (omega (arith, e)) (omega (arith, h, e))

-- .. so the channel only stores
pub within_only_stores : (n word : ℕ) (image : List ℕ) → disabled n image ≡ false → beyond (get_or image (high_limit_at n) 0) (get_or image (low_limit_at n) 0) word ≡ false
    → voltage_taken n word image ≡ set image (reading_at n) (word / 256)
within_only_stores n word image e b =
    voltage_enabled n word image e ∙ ap (λ (on : Bool). raised 0x01 (2 ^ n) on (set image (reading_at n) (word / 256))) b

-- a bit that is on stays on beside others
wider : (m a b : ℕ) → bit_and a m ≤ bit_and (bit_or a b) m
wider = bin_ind (λ (m : ℕ). (a b : ℕ) → bit_and a m ≤ bit_and (bit_or a b) m) (λ a b. omega (arith, and_zero_r a)) step
  where
    digit : (x y m : ℕ) → min x m ≤ min (max x y) m
    digit x y m = omega arith

    halves : (a b : ℕ) → (bit_or a b / 2 ≡ bit_or (a / 2) (b / 2)) × (bit_or a b % 2 ≡ max (a % 2) (b % 2))
    halves a b = (omega (arith, or_step a b), omega (arith, or_step a b))

    step : (m : ℕ) → ((a b : ℕ) → bit_and a (m / 2) ≤ bit_and (bit_or a b) (m / 2)) → (a b : ℕ) → bit_and a m ≤ bit_and (bit_or a b) m
    step m ih a b =
        let half : bit_and (bit_or a b / 2) (m / 2) ≡ bit_and (bit_or (a / 2) (b / 2)) (m / 2) = ap (λ (x : ℕ). bit_and x (m / 2)) (halves a b).0 in
        let odd : min (bit_or a b % 2) (m % 2) ≡ min (max (a % 2) (b % 2)) (m % 2) = ap (λ (x : ℕ). min x (m % 2)) (halves a b).1 in
        let low : min (a % 2) (m % 2) ≤ min (max (a % 2) (b % 2)) (m % 2) = digit (a % 2) (b % 2) (m % 2) in
        let high : bit_and (a / 2) (m / 2) ≤ bit_and (bit_or (a / 2) (b / 2)) (m / 2) = ih (a / 2) (b / 2) in
        subst (λ (x : ℕ). x ≤ bit_and (bit_or a b) m) (sym (and_step a m))
        (subst (λ (y : ℕ). bit_and (a / 2) (m / 2) * 2 + min (a % 2) (m % 2) ≤ y) (sym (and_step (bit_or a b) m ∙ ap₂ (λ (x y : ℕ). x * 2 + y) half odd))
        (sums (bit_and (a / 2) (m / 2)) (bit_and (bit_or (a / 2) (b / 2)) (m / 2)) (min (a % 2) (m % 2)) (min (max (a % 2) (b % 2)) (m % 2)) high low))
      where
        sums : (p q r s : ℕ) → p ≤ q → r ≤ s → p * 2 + r ≤ q * 2 + s
        sums p q r s h k = omega arith

pub still_on : (bit a b : ℕ) → is_on bit a ≡ true → is_on bit (bit_or a b) ≡ true
still_on bit a b e =
    let some : bit_and a bit ≡ 0 → ⊥ = eqb-false (bit_and a bit) 0 (not-true (eqb (bit_and a bit) 0) e) in
    ap not (ne_eqb (bit_and (bit_or a b) bit) 0 (λ z. some (omega (arith, wider bit a b, z))))

-- "a status bit stays on": a register holds what it held, or that and more
abbrev pub On : ℕ → ℕ → List ℕ → Type 0
On register bit image = is_on bit (get_or image register 0) ≡ true

set_keeps : (register bit k value : ℕ) (image : List ℕ) → (register ≡ k → ⊥) → On register bit image → On register bit (set image k value)
set_keeps register bit k value image h o = ap (is_on bit) (get_or-set_other image k register value 0 h) ∙ o

raised_keeps : (register bit at more : ℕ) (on : Bool) (image : List ℕ) → On register bit image → On register bit (raised at more on image)
raised_keeps register bit at more false image o = o
raised_keeps register bit at more true image o = by_place (eqb register at) refl
  where
    value : ℕ
    value = bit_or (get_or image at 0) more

    inside : (b : Bool) → ltb at (length image) ≡ b → On at bit image → On at bit (set image at value)
    inside true e p = ap (is_on bit) (get_or-set_same image at value 0 (ltb-true at (length image) e)) ∙ still_on bit (get_or image at 0) more p
    inside false e p = ap (λ (l : List ℕ). is_on bit (get_or l at 0)) (set_out image at value (ltb-false at (length image) e)) ∙ p

    by_place : (b : Bool) → eqb register at ≡ b → On register bit (set image at value)
    by_place true e =
        let same = eqb-true register at e in
        subst (λ (k : ℕ). On k bit (set image at value)) (sym same) (inside (ltb at (length image)) refl (subst (λ (k : ℕ). On k bit image) same o))
    by_place false e = set_keeps register bit at value image (eqb-false register at e) o

-- the status registers stand in front of the readings, and are not 06h
module _ (register bit : ℕ) (front : register < 0x06) where
  voltage_keeps : (n word : ℕ) (image : List ℕ) → On register bit image → On register bit (voltage_taken n word image)
  voltage_keeps n word image o = by_channel (disabled n image) refl
    where
      apart : register ≡ reading_at n → ⊥
      apart e = omega (arith, front, e)

      by_channel : (b : Bool) → disabled n image ≡ b → On register bit (voltage_taken n word image)
      by_channel true e =
          subst (On register bit) (sym (voltage_disabled n word image e)) (set_keeps register bit (reading_at n) 0 image apart o)
      by_channel false e =
          subst (On register bit) (sym (voltage_enabled n word image e))
          (raised_keeps register bit 0x01 (2 ^ n) (beyond (get_or image (high_limit_at n) 0) (get_or image (low_limit_at n) 0) word)
          (set image (reading_at n) (word / 256)) (set_keeps register bit (reading_at n) (word / 256) image apart o))

  voltages_keep : (n : ℕ) (words image : List ℕ) → On register bit image → On register bit (voltages_taken n words image)
  voltages_keep zero words image o = o
  voltages_keep (suc n) words image o = voltage_keeps n (get_or words n 0) (voltages_taken n words image) (voltages_keep n words image o)

  stored_keeps : (steps : ℤ) (image : List ℕ) → On register bit image → On register bit (with_temperature temperature 0 steps image)
  stored_keeps steps image o =
      set_keeps register bit 0x06 _ (set image 0x27 (bytes_from 12 0x10 steps).0) (λ e. omega (arith, front, e))
      (set_keeps register bit 0x27 _ image (λ e. omega (arith, front, e)) o)

  temperature_keeps : (steps : ℤ) (state : State) → On register bit state.image → On register bit (temperature_taken steps state).image
  temperature_keeps steps state o = by_channel (disabled 7 state.image) refl
    where
      next : Watch
      next = fed steps state

      kept : List ℕ
      kept = with_temperature temperature 0 steps state.image

      output : Bool
      output = shown next.behaviour next.hot next.pending

      by_channel : (b : Bool) → disabled 7 state.image ≡ b → On register bit (temperature_taken steps state).image
      by_channel true e =
          subst (λ (s : State). On register bit s.image) (sym (temperature_disabled steps state.image state.watch e)) (stored_keeps (pos 0) state.image o)
      by_channel false e =
          subst (λ (s : State). On register bit s.image) (sym (temperature_enabled steps state.image state.watch e))
          (raised_keeps register bit 0x02 0x20 (above_os steps state.image) (raised 0x02 0x01 output kept)
          (raised_keeps register bit 0x02 0x01 output kept (stored_keeps steps state.image o)))

  pub sampled_keeps : (steps : ℤ) (words : List ℕ) (state : State) → On register bit state.image → On register bit (sampled steps words state).image
  unfolding sampled
  sampled_keeps steps words state o = voltages_keep 7 words (temperature_taken steps state).image (temperature_keeps steps state o)

-- every byte but those of the readings and of the status stays
raised_other : (k register bit : ℕ) (on : Bool) (image : List ℕ) → (k ≡ register → ⊥) → get_or (raised register bit on image) k 0 ≡ get_or image k 0
raised_other k register bit true image h = get_or-set_other image register k (bit_or (get_or image register 0) bit) 0 h
raised_other k register bit false image h = refl

module _ (k : ℕ) (front : k ≡ 0x01 → ⊥) (aside : (k < 0x20) ⊎ (0x26 < k)) where
  not_there : (n : ℕ) → n < 7 → k ≡ reading_at n → ⊥
  not_there n h e = by_side aside
    where
      by_side : (k < 0x20) ⊎ (0x26 < k) → ⊥
      by_side (inl l) = omega (arith, l, e)
      by_side (inr g) = omega (arith, g, e, h)

  voltage_other : (n word : ℕ) (image : List ℕ) → n < 7 → get_or (voltage_taken n word image) k 0 ≡ get_or image k 0
  voltage_other n word image h = by_channel (disabled n image) refl
    where
      stored : List ℕ
      stored = set image (reading_at n) (word / 256)

      over : Bool
      over = beyond (get_or image (high_limit_at n) 0) (get_or image (low_limit_at n) 0) word

      by_channel : (b : Bool) → disabled n image ≡ b → get_or (voltage_taken n word image) k 0 ≡ get_or image k 0
      by_channel true e =
          ap (λ (l : List ℕ). get_or l k 0) (voltage_disabled n word image e) ∙ get_or-set_other image (reading_at n) k 0 0 (not_there n h)
      by_channel false e =
          ap (λ (l : List ℕ). get_or l k 0) (voltage_enabled n word image e)
          ∙ raised_other k 0x01 (2 ^ n) over stored front
          ∙ get_or-set_other image (reading_at n) k (word / 256) 0 (not_there n h)

  voltages_other : (n : ℕ) (words image : List ℕ) → n ≤ 7 → get_or (voltages_taken n words image) k 0 ≡ get_or image k 0
  voltages_other zero words image h = refl
  voltages_other (suc n) words image h =
      voltage_other n (get_or words n 0) (voltages_taken n words image) (omega (arith, h)) ∙ voltages_other n words image (omega (arith, h))

module _ (steps : ℤ) (words : List ℕ) (state : State) where
  -- the temperature that is stored: 0 where the channel is disabled
  abbrev pub reported : ℤ
  reported = cond (disabled 7 state.image) (pos 0) steps

  -- but for the status it is where the temperature goes
  temperature_other : (k : ℕ) → (k ≡ 0x02 → ⊥) → get_or (temperature_taken steps state).image k 0 ≡ get_or (with_temperature temperature 0 reported state.image) k 0
  temperature_other k h = by_channel (disabled 7 state.image) refl
    where
      next : Watch
      next = fed steps state

      kept : List ℕ
      kept = with_temperature temperature 0 steps state.image

      output : Bool
      output = shown next.behaviour next.hot next.pending

      by_channel : (b : Bool) → disabled 7 state.image ≡ b
          → get_or (temperature_taken steps state).image k 0 ≡ get_or (with_temperature temperature 0 (cond b (pos 0) steps) state.image) k 0
      by_channel true e = ap (λ (s : State). get_or s.image k 0) (temperature_disabled steps state.image state.watch e)
      by_channel false e =
          ap (λ (s : State). get_or s.image k 0) (temperature_enabled steps state.image state.watch e)
          ∙ raised_other k 0x02 0x20 (above_os steps state.image) (raised 0x02 0x01 output kept) h
          ∙ raised_other k 0x02 0x01 output kept h

  pub sampled_other : (k : ℕ) → (k ≡ 0x01 → ⊥) → (k ≡ 0x02 → ⊥) → (k ≡ 0x06 → ⊥) → (k < 0x20) ⊎ (0x27 < k)
      → get_or (sampled steps words state).image k 0 ≡ get_or state.image k 0
  unfolding sampled
  sampled_other k one two six aside =
      voltages_other k one (wider_side aside) 7 words (temperature_taken steps state).image (omega arith)
      ∙ temperature_other k two
      ∙ get_or-set_other (set state.image 0x27 (bytes_from 12 0x10 reported).0) 0x06 k _ 0 six
      ∙ get_or-set_other state.image 0x27 k (bytes_from 12 0x10 reported).0 0 (not_27 aside)
    where
      wider_side : (k < 0x20) ⊎ (0x27 < k) → (k < 0x20) ⊎ (0x26 < k)
      wider_side (inl l) = inl l
      wider_side (inr g) = inr (omega (arith, g))

      not_27 : (k < 0x20) ⊎ (0x27 < k) → k ≡ 0x27 → ⊥
      not_27 (inl l) e = omega (arith, l, e)
      not_27 (inr g) e = omega (arith, g, e)

  -- "It stores the temperature at 27h and bits 7 to 4 of 06h (bits 3 to 0 of 06h stay)"
  module _ (long : 256 ≤ length state.image) (fit : fits 12 reported ≡ true) where
    stored : Stored temperature 0 reported state.image (with_temperature temperature 0 reported state.image)
    stored = temperature_stored temperature tested.1 0 (omega arith) state.image long reported fit

    there : (k : ℕ) → (k ≡ 0x01 → ⊥) → (k ≡ 0x02 → ⊥) → (k < 0x20) ⊎ (0x26 < k)
        → get_or (sampled steps words state).image k 0 ≡ get_or (with_temperature temperature 0 reported state.image) k 0
    unfolding sampled
    there k one two aside = voltages_other k one aside 7 words (temperature_taken steps state).image (omega arith) ∙ temperature_other k two

    pub temperature_held : temperature_in temperature 0 (sampled steps words state).image ≡ reported
    temperature_held =
        ap₂ (steps_from 12 0x10) (there 0x27 (λ e. omega (arith, e)) (λ e. omega (arith, e)) (inr (omega arith)))
        (there 0x06 (λ e. omega (arith, e)) (λ e. omega (arith, e)) (inl (omega arith)))
        ∙ stored.read_back

    pub low_bits_stay : ignored 0xF0 (get_or (sampled steps words state).image 0x06 0) ≡ ignored 0xF0 (get_or state.image 0x06 0)
    low_bits_stay =
        ap (ignored 0xF0) (there 0x06 (λ e. omega (arith, e)) (λ e. omega (arith, e)) (inl (omega arith))) ∙ stored.ignored_stay

  -- "the watch of the base is what a sample of this chip does to the facts"; "a disabled temperature does not feed the watch, and both facts stay"
  pub facts_fed : disabled 7 state.image ≡ false
      → (sampled steps words state).watch ≡ after state.watch (sample steps (limit_in hot_limit state.image) (limit_in hysteresis_limit state.image))
  unfolding sampled
  facts_fed e = ap (λ (s : State). s.watch) (temperature_enabled steps state.image state.watch e)

  pub facts_stay : disabled 7 state.image ≡ true → (sampled steps words state).watch ≡ state.watch
  unfolding sampled
  facts_stay e = ap (λ (s : State). s.watch) (temperature_disabled steps state.image state.watch e)
