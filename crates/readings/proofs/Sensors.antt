-- A temperature that is stored where its chip holds it is read back, no other byte moves, and the bits that do not count neither move nor matter:
-- once for every place that passes a test, which is computed for chips 1 and 3.
-- Assumes nothing.
use Prim.Native.Nat.{ℕ, suc, ◌-◌, ◌/◌, ◌^◌, ◌<◌, ◌≤◌}
use native.Mathlib.Omega.{arith}
use mathlib.Core.Path.{◌≡◌, refl, sym, ap, ap₂, ◌∙◌, subst}
use mathlib.Core.Bool.{Bool, true, false, So, ◌&&◌, ◌||◌}
use mathlib.Core.List.{List, ◌∷◌}
use borrow.Author.Tests.{eqb-true, ltb-true}
use lib.Bits.{bit_and, and_high}
use lib.Dec.{eqb, ltb}
use lib.IntN.{ℤ, pos, ◌+ℤ◌, ◌*ℤ◌}
use lib.ListN.{length, get_or, set, length-set}
use lib.Pow.{pow_pos, pow-add, shl-shr}
use lib.Seq.{get_or-set_same, get_or-set_other}
use Rattle.pages.specs.Rows.{every, Reading}
use Rattle.pages.specs.Nct7802y as nct7802y
use Rattle.pages.specs.Nct80 as nct80
use Rattle.pages.specs.Nct7904d as nct7904d
use Rattle.pages.proofs.Every.{both, of_every, distinct, apart}
use Rattle.readings.specs.Readings.{is_width, fits, steps_per_degree, degrees_of, low_count, steps_from, bytes_from, bits_from}
use Rattle.readings.specs.Sensors.{high_at, temperature_in, ignored, replaced, with_temperature}
use Rattle.readings.proofs.Widths.{bounds}
use Rattle.readings.proofs.Replaced.{under_mask, outside_mask}
use Rattle.readings.proofs.Aligned.{round_trip_from}

-- what it holds
pub record Stored (t : Reading) (sensor : ℕ) (steps : ℤ) (old new : List ℕ) : Type 0 where
  pub read_back : temperature_in t sensor new ≡ steps
  pub ignored_stay : ignored t.bits (get_or new t.low 0) ≡ ignored t.bits (get_or old t.low 0)
  pub others_stay : (address : ℕ) → (address ≡ high_at t sensor → ⊥) → (address ≡ t.low → ⊥) → get_or new address 0 ≡ get_or old address 0
  pub length_stays : length new ≡ length old

-- left-aligned or right-aligned
abbrev pub aligned : ℕ → ℕ → Bool
aligned w unit = eqb unit (2 ^ (16 - w)) || eqb unit 1

-- one of the paper's widths, with the low bits of this width at one end of the low byte ..
abbrev pub shaped : Reading → Bool
shaped t =
    is_width t.width && (aligned t.width t.unit && (eqb t.bits (bits_from t.width t.unit) && ltb t.bits (2 ^ 8)))

-- .. in distinct bytes of an image
abbrev pub standing : Reading → Bool
standing t = every (λ address. ltb address 256) (t.low ∷ t.high) && distinct (t.low ∷ t.high)

abbrev pub sound : Reading → Bool
sound t = shaped t && standing t

pub tested : So (sound nct7802y.temperature) × So (sound nct80.temperature) × So (every sound nct7904d.temperatures)
tested = (refl, refl, refl)

-- what the test says
record Sound (t : Reading) (sensor : ℕ) : Type 0 where
  known : is_width t.width ≡ true
  place : ℕ
  power : t.unit ≡ 2 ^ place
  counting : t.bits ≡ bits_from t.width t.unit
  inside : t.bits < 2 ^ 8
  low_inside : t.low < 256
  high_inside : high_at t sensor < 256
  different : high_at t sensor ≡ t.low → ⊥

at_an_end : (w unit : ℕ) → So (aligned w unit) → (k : ℕ) × (unit ≡ 2 ^ k)
at_an_end w unit p = by_test (eqb unit (2 ^ (16 - w))) refl p
  where
    by_test : (b : Bool) → eqb unit (2 ^ (16 - w)) ≡ b → So (b || eqb unit 1) → (k : ℕ) × (unit ≡ 2 ^ k)
    by_test true e p = (16 - w, eqb-true unit (2 ^ (16 - w)) e)
    by_test false e p = (0, eqb-true unit 1 p)

passes : (t : Reading) → So (sound t) → (sensor : ℕ) → sensor < length t.high → Sound t sensor
passes t p sensor there =
    let parts = both (shaped t) (standing t) p in
    let width = both (is_width t.width) (aligned t.width t.unit && (eqb t.bits (bits_from t.width t.unit) && ltb t.bits (2 ^ 8))) parts.0 in
    let end = both (aligned t.width t.unit) (eqb t.bits (bits_from t.width t.unit) && ltb t.bits (2 ^ 8)) width.1 in
    let mask = both (eqb t.bits (bits_from t.width t.unit)) (ltb t.bits (2 ^ 8)) end.1 in
    let stand = both (every (λ a. ltb a 256) (t.low ∷ t.high)) (distinct (t.low ∷ t.high)) parts.1 in
    let within : (k : ℕ) → k < length (t.low ∷ t.high) → get_or (t.low ∷ t.high) k 0 < 256 = λ k h. ltb-true (get_or (t.low ∷ t.high) k 0) 256 (of_every (λ a. ltb a 256) (t.low ∷ t.high) 0 stand.0 k h) in
    record {
      known = width.0;
      place = (at_an_end t.width t.unit end.0).0;
      power = (at_an_end t.width t.unit end.0).1;
      counting = eqb-true t.bits (bits_from t.width t.unit) mask.0;
      inside = ltb-true t.bits (2 ^ 8) mask.1;
      low_inside = within 0 (omega arith);
      high_inside = within (suc sensor) (omega arith);
      different = λ e. let same : suc sensor ≡ 0 = apart (t.low ∷ t.high) stand.1 (suc sensor) 0 (omega arith) (omega arith) e in omega arith;
    }

-- the bits that count, as a number
counted : (w k byte : ℕ) → low_count w (2 ^ k) byte ≡ bit_and byte (bits_from w (2 ^ k)) / 2 ^ k
counted w k byte =
    sym (ap (λ (n : ℕ). n / 2 ^ k) (ap (λ (n : ℕ). bit_and byte (n - 2 ^ k)) (sym (pow-add 2 (w - 8) k)) ∙ and_high byte (w - 8) k) ∙ shl-shr (low_count w (2 ^ k) byte) k)

module _ (t : Reading) (passed : So (sound t)) (sensor : ℕ) (there : sensor < length t.high) where
  s : Sound t sensor
  s = passes t passed sensor there

  -- low bytes whose counting bits are the same are the same steps
  same_steps : (h a b : ℕ) → bit_and a t.bits ≡ bit_and b t.bits → steps_from t.width t.unit h a ≡ steps_from t.width t.unit h b
  same_steps h a b e =
      let w : ℕ = t.width in
      let count : (byte : ℕ) → low_count w t.unit byte ≡ bit_and byte t.bits / t.unit = λ byte. subst (λ (unit : ℕ). low_count w unit byte ≡ bit_and byte (bits_from w unit) / unit) (sym s.power) (counted w s.place byte) ∙ ap (λ (bits : ℕ). bit_and byte bits / t.unit) (sym s.counting) in
      ap (λ (n : ℕ). degrees_of h *ℤ pos (steps_per_degree w) +ℤ pos n) (count a ∙ ap (λ (n : ℕ). n / t.unit) e ∙ sym (count b))

  module _ (image : List ℕ) (sized : 256 ≤ length image) where
    -- every number of steps that fits is read back from the image in which it is stored
    pub temperature_stored : (steps : ℤ) → fits t.width steps ≡ true → Stored t sensor steps image (with_temperature t sensor steps image)
    temperature_stored steps fit =
        let w : ℕ = t.width in
        let least : 8 ≤ w = (bounds t.width s.known).0 in
        let most : w ≤ 16 = omega (arith, (bounds t.width s.known).1) in
        let some : 0 < t.unit = subst (λ (n : ℕ). 0 < n) (sym s.power) (pow_pos s.place) in
        let high : ℕ = (bytes_from w t.unit steps).0 in
        let low : ℕ = (bytes_from w t.unit steps).1 in
        let old : ℕ = get_or image t.low 0 in
        let byte : ℕ = replaced t.bits old low in
        let first : List ℕ = set image (high_at t sensor) high in
        let at_high : get_or (set first t.low byte) (high_at t sensor) 0 ≡ high = get_or-set_other first t.low (high_at t sensor) byte 0 s.different ∙ get_or-set_same image (high_at t sensor) high 0 (omega (arith, s.high_inside)) in
        let at_low : get_or (set first t.low byte) t.low 0 ≡ byte = get_or-set_same first t.low byte 0 (omega (arith, s.low_inside, length-set image (high_at t sensor) high)) in
        record {
          read_back = ap₂ (steps_from w t.unit) at_high at_low ∙ same_steps high byte low (under_mask 8 low old t.bits s.inside) ∙ (round_trip_from w least most t.unit some).steps_bytes_steps steps fit;
          ignored_stay = ap (ignored t.bits) at_low ∙ outside_mask 8 low old t.bits s.inside;
          others_stay = λ address not-high not_low. get_or-set_other first t.low address byte 0 not_low ∙ get_or-set_other image (high_at t sensor) address high 0 not-high;
          length_stays = length-set first t.low byte ∙ length-set image (high_at t sensor) high;
        }

    -- "The other low bits are ignored on reading": another low byte with the same counting bits
    pub ignored_do_not_matter : (byte : ℕ) → bit_and byte t.bits ≡ bit_and (get_or image t.low 0) t.bits
        → temperature_in t sensor (set image t.low byte) ≡ temperature_in t sensor image
    ignored_do_not_matter byte same =
        ap₂ (steps_from t.width t.unit) (get_or-set_other image t.low (high_at t sensor) byte 0 s.different) (get_or-set_same image t.low byte 0 (omega (arith, s.low_inside)))
        ∙ same_steps (get_or image (high_at t sensor) 0) byte (get_or image t.low 0) same
