-- The two ways of a voltage and of the temperature, enabled and disabled, and how the code finds them by 08h.
-- Assumes nothing.
use Prim.Native.Nat.{ℕ, ◌*◌, ◌/◌, ◌%◌, ◌^◌, ◌<◌}
use mathlib.Core.Path.{◌≡◌, sym, ap, ap₂, ◌∙◌}
use mathlib.Core.Bool.{Bool, true, false, cond}
use mathlib.Core.List.{List}
use lib.IntN.{ℤ, pos}
use lib.ListN.{get_or, set}
use Rattle.pages.specs.Nct80.{temperature, reading_at, high_limit_at, low_limit_at}
use Rattle.readings.specs.Sensors.{with_temperature}
use Rattle.watch.specs.declared.Watch.{Watch}
use Rattle.watch.specs.Alarm.{shown}
use Rattle.channels.specs.Channels.{State, is_on, disabled, raised, beyond, voltage_taken, fed, above_os, temperature_taken}
use Rattle.channels.proofs.Limits.{bit_is}

module _ (n word : ℕ) (image : List ℕ) where
  abbrev stored : List ℕ
  stored = set image (reading_at n) (word / 256)

  abbrev raising : ℕ → Bool → List ℕ
  raising bit on = raised 0x01 bit on stored

  abbrev over : Bool
  over = beyond (get_or image (high_limit_at n) 0) (get_or image (low_limit_at n) 0) word

  -- what the code asks of 08h is whether the channel is disabled
  asked : {r : Bool} → n < 8 → r ≡ is_on (1 * 2 ^ n % 256) (get_or image 0x08 0) → disabled n image ≡ r
  asked h e = ap (λ (bit : ℕ). is_on bit (get_or image 0x08 0)) (sym (bit_is n h)) ∙ sym e

  -- disabled: 0 is stored, and nothing raised
  pub voltage_disabled : disabled n image ≡ true → voltage_taken n word image ≡ set image (reading_at n) 0
  voltage_disabled e = ap (λ (b : Bool). cond b (set image (reading_at n) 0) (raising (2 ^ n) over)) e

  pub voltage_off : {r : Bool} → n < 8 → r ≡ is_on (1 * 2 ^ n % 256) (get_or image 0x08 0) → r ≡ true → voltage_taken n word image ≡ set image (reading_at n) 0
  voltage_off h e t = voltage_disabled (asked h e ∙ t)

  -- enabled: the high byte is stored, and the bit goes on where the voltage is beyond its limits
  pub voltage_enabled : disabled n image ≡ false → voltage_taken n word image ≡ raising (2 ^ n) over
  voltage_enabled e = ap (λ (b : Bool). cond b (set image (reading_at n) 0) (raising (2 ^ n) over)) e

  pub voltage_on : {r : Bool} (on : Bool) → n < 8 → r ≡ is_on (1 * 2 ^ n % 256) (get_or image 0x08 0) → r ≡ false → on ≡ over
      → raising (1 * 2 ^ n % 256) on ≡ voltage_taken n word image
  voltage_on on h e t q =
      ap (λ (bit : ℕ). raising bit on) (bit_is n h)
      ∙ ap (raising (2 ^ n)) q
      ∙ sym (voltage_enabled (asked h e ∙ t))

module _ (steps : ℤ) (image : List ℕ) (watch : Watch) where
  abbrev state : State
  state = record { image = image; watch = watch }

  abbrev untaken : State
  untaken = record { image = with_temperature temperature 0 (pos 0) image; watch = watch }

  -- what the watch that is fed leaves
  abbrev taking : Watch → State
  taking next =
      record {
        image = raised 0x02 0x20 (above_os steps image) (raised 0x02 0x01 (shown next.behaviour next.hot next.pending) (with_temperature temperature 0 steps image));
        watch = next;
      }

  -- disabled: 0 is stored, nothing raised, and the watch stays
  pub temperature_disabled : disabled 7 image ≡ true → temperature_taken steps state ≡ untaken
  temperature_disabled e = ap (λ (b : Bool). cond b untaken (taking (fed steps state))) e

  pub temperature_off : {r : Bool} → r ≡ is_on 0x80 (get_or image 0x08 0) → r ≡ true → untaken ≡ temperature_taken steps state
  temperature_off e t = sym (temperature_disabled (sym e ∙ t))

  -- enabled: the temperature is stored, and the watch that it feeds and the OS limit raise their bits
  pub temperature_enabled : disabled 7 image ≡ false → temperature_taken steps state ≡ taking (fed steps state)
  temperature_enabled e = ap (λ (b : Bool). cond b untaken (taking (fed steps state))) e

  pub temperature_on : {r : Bool} → r ≡ is_on 0x80 (get_or image 0x08 0) → r ≡ false → {next : Watch} → next ≡ fed steps state
      → {above output : Bool} → above ≡ above_os steps image → output ≡ shown next.behaviour next.hot next.pending
      → {kept one two : List ℕ} → kept ≡ with_temperature temperature 0 steps image → one ≡ raised 0x02 0x01 output kept → two ≡ raised 0x02 0x20 above one
      → ◌≡◌ {A = State} (record { image = two; watch = next }) (temperature_taken steps state)
  temperature_on e t {next} n {above} {output} a o {kept} {one} {two} k p q =
      ap (λ (l : List ℕ). record { image = l; watch = next }) (q ∙ ap₂ (raised 0x02 0x20) a (p ∙ ap₂ (raised 0x02 0x01) o k))
      ∙ ap taking n
      ∙ sym (temperature_enabled (sym e ∙ t))
