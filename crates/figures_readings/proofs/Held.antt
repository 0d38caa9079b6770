-- The bytes that `states::read` answers at a sensor's two addresses are counted by `readings::steps_of`, or by `right_readings::right_steps`, as the
-- temperature that the image holds: a byte that is read is that of the image before, since 0 is told only where no check applies, and a read lands at its
-- address where there is one bank only or bank 0 is selected. No sensor's register is a status register: one read after the other leaves the image and
-- the watch as they were.
-- Assumes nothing.
use Rattle.std.proofs.Common.{◌≡◌, ℕ, suc, ◌+◌, ◌-◌, ◌*◌, ◌^◌, ◌<◌, Bool, true, false, cond, not, List, ◌∷◌, length, get_or, ℤ, sym, refl, ap, ◌∙◌, subst, ap₂, arith, Result, Option, Ok, Some}
use Rattle.refusal.specs.declared.Refusal.{Refusal}
use mathlib.Core.Bool.{So}
use borrow.Author.Tests.{not-true}
use Rattle.refusal.specs.Checks.{first}
use Rattle.refusal.proofs.Passed.{when_passed}
use Rattle.pages.specs.declared.Chip.{Chip}
use Rattle.pages.specs.Banks.{shared_in, stands_in}
use Rattle.pages.specs.Rows.{every, Reading}
use Rattle.pages.specs.Cards.{sheet_of, chips, chip_of, banks_of, is_status, when_known}
use Rattle.pages.proofs.Every.{of_every}
use Rattle.images.specs.Bytes.{selected, position, seen}
use Rattle.images.specs.Promises.{image_checks}
use Rattle.images.proofs.Landing.{lands, lands_plain}
use Rattle.readings.specs.Readings.{is_width, steps_at, steps_from}
use Rattle.readings.specs.Promises.{CountsSteps}
use Rattle.readings.specs.Sensors.{high_at, temperature_in}
use Rattle.readings.proofs.RoundTrip.{counted}
use Rattle.readings.proofs.Widths.{bounds}
use Rattle.readings.proofs.Aligned.{steps_left}
use Rattle.readings.proofs.Unique.{tells_steps_injective}
use Rattle.right_readings.specs.Promises.{CountsRight}
use Rattle.watch.specs.declared.Watch.{Watch}
use Rattle.channels.specs.Channels.{State}
use Rattle.states.specs.States.{after_read}
use Rattle.states.specs.Promises.{left_of, ReadsByte}
use Rattle.states.proofs.Reading.{read_plain}

-- where bank 0 is selected, a read lands at its address
lands_in_bank_0 : (chip : Chip) (image : List ℕ) (address : ℕ) → selected chip image ≡ 0 → position chip image address ≡ address
lands_in_bank_0 chip image address e =
    lands chip image address
    ∙ ap (λ (bank : ℕ). stands_in (banks_of chip) bank address) e
    ∙ by_place (shared_in (banks_of chip) address)
  where
    by_place : (b : Bool) → cond b address (0 * 256 + address) ≡ address
    by_place true = refl
    by_place false = omega arith

-- no register of a temperature is a status register
abbrev pub plain : Chip → Reading → Bool
plain chip t = every (λ address. not (is_status chip address)) (t.low ∷ t.high)

pub no_status : So (every (λ chip. every (plain chip) (sheet_of chip).temperatures) chips)
unfolding sheet_of is_status
no_status = refl

-- a read that gives a byte
module _ {number address byte : ℕ} {image after : List ℕ} {watch next : Watch} (chip : Chip) (named : chip_of number ≡ Some chip)
    (there : position chip image address ≡ address) (p : ReadsByte number image address watch (Ok (byte, next)) after) where
  abbrev before : State
  before = record { image = image; watch = watch }

  none : first (image_checks number image) ≡ 0
  none = sym (ap (λ (t : ℕ × (ℕ × Watch)). t.0) p.answer)

  -- what it gives
  abbrev byte_and_watch : ℕ × Watch
  byte_and_watch = (when_known (chip_of number) (λ c. seen c address image) 0, (left_of number (λ c. after_read c address) image watch).watch)

  given : ◌≡◌ {A = ℕ × Watch} (byte, next) byte_and_watch
  given = ap (λ (t : ℕ × (ℕ × Watch)). t.1) p.answer ∙ sym (when_passed byte_and_watch (0, watch) none)

  byte_held : byte ≡ get_or image address 0
  byte_held =
      ap (λ (t : ℕ × Watch). t.0) given
      ∙ ap (λ (n : Option Chip). when_known n (λ c. seen c address image) 0) named
      ∙ ap (λ (k : ℕ). get_or image k 0) there

  -- "Every other read changes nothing."
  pub read_leaves : is_status chip address ≡ false → (after ≡ image) × (next ≡ watch)
  read_leaves e =
      let same : left_of number (λ c. after_read c address) image watch ≡ before = ap (λ (n : Option Chip). when_known n (λ c. after_read c address before) before) named ∙ read_plain chip address before (ap (is_status chip) there ∙ e) in (
        p.bytes ∙ sym (when_passed _ image none) ∙ ap (λ (s : State). s.image) same,
        ap (λ (t : ℕ × Watch). t.1) given ∙ ap (λ (s : State). s.watch) same,
      )

module _ {number : ℕ} (chip : Chip) (named : chip_of number ≡ Some chip) {image : List ℕ} (t : Reading) (sensor : ℕ) where
  -- where the low bits are left-aligned, of a chip with one bank ..
  pub temperature_read : {high low : ℕ} {r : (Result ℤ Refusal)} {after later : List ℕ} {watch next other last : Watch}
      → (banks_of chip).bits ≡ 0 → is_width t.width ≡ true → t.unit ≡ 2 ^ (16 - t.width) → high < 256 → low < 256
      → ReadsByte number image (high_at t sensor) watch (Ok (high, next)) after → ReadsByte number image t.low other (Ok (low, last)) later
      → CountsSteps t.width high low r
      → r ≡ Ok (temperature_in t sensor image)
  temperature_read {high} {low} {r} one known left h l at_high at_low count =
      let w : ℕ = t.width in
      let same : steps_from w t.unit high low ≡ steps_at w high low = ap (λ (unit : ℕ). steps_from w unit high low) left ∙ steps_left w (bounds w known).0 (omega (arith, bounds w known)) high low h l in
      let held_High = byte_held chip named (lands_plain chip image (high_at t sensor) one) at_high in
      let held_Low = byte_held chip named (lands_plain chip image t.low one) at_low in
      tells_steps_injective r (Ok _)
      (counted known count ∙ ap (λ (n : ℤ). (0, n)) (sym same ∙ ap₂ (steps_from w t.unit) held_High held_Low))

  -- .. and where they are right-aligned, while bank 0 is selected
  pub right_temperature_read : {high low : ℕ} {n : ℤ} {after later : List ℕ} {watch next other last : Watch}
      → selected chip image ≡ 0 → t.width ≡ 11 → t.unit ≡ 1
      → ReadsByte number image (high_at t sensor) watch (Ok (high, next)) after → ReadsByte number image t.low other (Ok (low, last)) later
      → CountsRight high low n
      → n ≡ temperature_in t sensor image
  right_temperature_read first-bank eleven right at_high at_low count =
      count.answer
      ∙ ap₂ (steps_from 11 1)
      (byte_held chip named (lands_in_bank_0 chip image (high_at t sensor) first-bank) at_high)
      (byte_held chip named (lands_in_bank_0 chip image t.low first-bank) at_low)
      ∙ ap₂ (λ (w unit : ℕ). steps_from w unit (get_or image (high_at t sensor) 0) (get_or image t.low 0)) (sym eleven) (sym right)

  -- Two reads in turn: the second is one of the same image with the same watch, and both are left as they were.
  pub read_in_turn : {high low : ℕ} {between after : List ℕ} {watch next last : Watch} → So (plain chip t) → sensor < length t.high
      → ((address : ℕ) → position chip image address ≡ address)
      → ReadsByte number image (high_at t sensor) watch (Ok (high, next)) between → ReadsByte number between t.low next (Ok (low, last)) after
      → ReadsByte number image t.low watch (Ok (low, last)) after × ((after ≡ image) × (last ≡ watch))
  read_in_turn {low = low} {after = after} {watch = watch} {last = last} passed there landing at_high at_low =
      let quiet : (k : ℕ) → k < length (t.low ∷ t.high) → is_status chip (get_or (t.low ∷ t.high) k 0) ≡ false = λ k h. not-true _ (of_every (λ address. not (is_status chip address)) (t.low ∷ t.high) 0 passed k h) in
      let first-left = read_leaves chip named (landing (high_at t sensor)) at_high (quiet (suc sensor) (omega arith)) in
      let same = ap₂ (λ (i : List ℕ) (w : Watch). ReadsByte number i t.low w (Ok (low, last)) after) first-left.0 first-left.1 in
      let again : ReadsByte number image t.low watch (Ok (low, last)) after = subst (λ (T : Type 0). T) same at_low in
      (again, read_leaves chip named (landing t.low) again (quiet 0 (omega arith)))
