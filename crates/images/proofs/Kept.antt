-- What no write changes: bits that are neither writable nor clear on one, wherever they stand. So identity is kept: a reset image is confirmed, and no
-- write changes what identity sees, since no card lets an identity bit be written or cleared.
-- Assumes nothing.
use Prim.Native.Nat.{ℕ, zero, suc, ◌+◌, ◌*◌, ◌/◌, ◌%◌, ◌^◌, ◌<◌, min}
use native.Mathlib.Nat.{pow-suc, min-zero}
use native.Mathlib.Omega.{arith}
use mathlib.Core.Path.{◌≡◌, refl, sym, ap, ap₂, subst, ◌∙◌}
use mathlib.Core.Bool.{Bool, true, false, So, ◌&&◌, ◌||◌}
use mathlib.Core.List.{List, [], ◌∷◌}
use borrow.Author.Tests.{eqb-true, eqb-false, lt-ltb, ltb-true, ltb-false}
use lib.Arith.{lt-one}
use lib.Bits.{bit_and, and_step, and_zero_l, and_zero_r}
use lib.Dec.{eqb, ltb}
use lib.ListN.{length, get_or, set, get_or-eq_default}
use lib.Seq.{get_or-set_same, set_out}
use Rattle.pages.specs.declared.Chip.{Chip}
use Rattle.pages.specs.declared.Chip.TheVariants.{Nct7802y, F75373s, Nct7904d, W83793g}
use Rattle.pages.specs.declared.Masks.{Masks}
use Rattle.pages.specs.declared.Required.{Required}
use Rattle.pages.specs.Rows.{every, Row, masks_in, mask_of}
use Rattle.pages.specs.Cards.{sheet_of, row_of, effects_of, power_on}
use Rattle.pages.specs.Identity.{all_hold, agrees, confirmed}
use Rattle.pages.proofs.Every.{both}
use Rattle.pages.proofs.Sound.{fixed, lasting, sound_sheet}
use Rattle.images.specs.Bytes.{stored_bit, stored_bits, stored, stored_at, placed, initialized, settled, landed, position, written}
use Rattle.images.proofs.Digits.{bit, digit}
use Rattle.images.proofs.Laws.{stored_at_other, stored_half, stored_last}
use Rattle.images.proofs.Writes.{initialized_length, initialized_at, landed_either}

agrees_where_some : (image : List ℕ) (rs : List Required) → So (all_hold image rs) → agrees image rs ≡ ltb 0 (length rs)
agrees_where_some image [] t = refl
agrees_where_some image (r ∷ rs) t = t ∙ sym (lt-ltb 0 (suc (length rs)) (omega arith))

-- a chip that has an identity confirms its power-on column ..
pub reset_agrees : (chip : Chip) → confirmed chip (power_on chip) ≡ ltb 0 (length (sheet_of chip).identity)
unfolding confirmed
reset_agrees chip = agrees_where_some (power_on chip) (sheet_of chip).identity (sound_sheet chip).starts

-- .. and chips 1, 2, 4 and 5 have one
pub reset_confirmed : So (confirmed Nct7802y (power_on Nct7802y)
    && (confirmed F75373s (power_on F75373s) && (confirmed Nct7904d (power_on Nct7904d) && confirmed W83793g (power_on W83793g))))
unfolding sheet_of
reset_confirmed = ap₂ ◌&&◌ (reset_agrees Nct7802y) (ap₂ ◌&&◌ (reset_agrees F75373s) (ap₂ ◌&&◌ (reset_agrees Nct7904d) (reset_agrees W83793g)))

-- a bit that counts, and is neither writable nor a clear bit, is kept; one that does not count does not matter
kept_bit : (w c m : Bool) (o x : ℕ) → min (bit w) (bit m) ≡ 0 → min (bit c) (bit m) ≡ 0
    → min (stored_bit (bit w) (bit c) o x) (bit m) ≡ min o (bit m)
kept_bit w c false o x p q = min-zero (stored_bit (bit w) (bit c) o x) ∙ sym (min-zero o)
kept_bit false false true o x p q = refl
kept_bit true c true o x p q = absurd (omega arith)
kept_bit false true true o x p q = absurd (omega arith)

kept_digit : (w c m o x : ℕ) → min (w % 2) (m % 2) ≡ 0 → min (c % 2) (m % 2) ≡ 0
    → min (stored_bit (w % 2) (c % 2) o x) (m % 2) ≡ min o (m % 2)
kept_digit w c m o x =
    digit (λ w'. min w' (m % 2) ≡ 0 → min (c % 2) (m % 2) ≡ 0 → min (stored_bit w' (c % 2) o x) (m % 2) ≡ min o (m % 2))
    (λ wb. digit (λ c'. min (bit wb) (m % 2) ≡ 0 → min c' (m % 2) ≡ 0 → min (stored_bit (bit wb) c' o x) (m % 2) ≡ min o (m % 2))
    (λ cb. digit (λ m'. min (bit wb) m' ≡ 0 → min (bit cb) m' ≡ 0 → min (stored_bit (bit wb) (bit cb) o x) m' ≡ min o m')
    (λ mb. kept_bit wb cb mb o x) m) c) w

-- of n bits, those that count are kept where none of them is writable or a clear bit
kept_bits : (n w c m o x : ℕ) → m < 2 ^ n → bit_and w m ≡ 0 → bit_and c m ≡ 0 → bit_and (stored_bits n w c o x) m ≡ bit_and o m
kept_bits zero w c m o x h p q =
    ap (bit_and 0) (lt-one h) ∙ and_zero_r 0 ∙ sym (ap (bit_and o) (lt-one h) ∙ and_zero_r o)
kept_bits (suc n) w c m o x h p q =
    let pw : bit_and (w / 2) (m / 2) * 2 + min (w % 2) (m % 2) ≡ 0 = sym (and_step w m) ∙ p in
    let pc : bit_and (c / 2) (m / 2) * 2 + min (c % 2) (m % 2) ≡ 0 = sym (and_step c m) ∙ q in
    let less : m / 2 < 2 ^ n = omega (arith, rw pow-suc at h) in
    and_step (stored_bits (suc n) w c o x) m
    ∙ ap₂ (λ (a b : ℕ). a * 2 + b)
    (ap (λ (y : ℕ). bit_and y (m / 2)) (stored_half n w c o x) ∙ kept_bits n (w / 2) (c / 2) (m / 2) (o / 2) (x / 2) less (omega arith) (omega arith))
    (ap (λ (y : ℕ). min y (m % 2)) (stored_last n w c o x) ∙ kept_digit w c m (o % 2) (x % 2) (omega arith) (omega arith))
    ∙ sym (and_step o m)

kept_stored : (masks : Masks) (bits old byte : ℕ) → bits < 2 ^ 8 → bit_and masks.writable bits ≡ 0 → bit_and masks.clears bits ≡ 0
    → bit_and (stored masks old byte) bits ≡ bit_and old bits
unfolding stored
kept_stored masks bits old byte h p q = kept_bits 8 masks.writable masks.clears bits old byte h p q

-- what the test says of bits that no write changes
abbrev Fixed : Row → ℕ → Type 0
Fixed row bits = (bits < 2 ^ 8) × (bit_and row.writable bits ≡ 0) × (bit_and row.clears bits ≡ 0)

fixed_facts : (row : Row) (bits : ℕ) → So (fixed row bits) → Fixed row bits
fixed_facts row bits t =
    let parts = both (ltb bits (2 ^ 8)) _ t in
    let masks = both (eqb (bit_and row.writable bits) 0) _ parts.1 in
    (ltb-true bits (2 ^ 8) parts.0, eqb-true (bit_and row.writable bits) 0 masks.0, eqb-true (bit_and row.clears bits) 0 masks.1)

-- "read-only bits .. stay": an image holds what another does, in all bits that no write changes
abbrev pub Keeps : Chip → List ℕ → List ℕ → Type 0
Keeps chip old new = (k bits : ℕ) → So (fixed (row_of chip k) bits) → bit_and (get_or new k 0) bits ≡ bit_and (get_or old k 0) bits

module _ (chip : Chip) (image : List ℕ) where
  -- a write at a position keeps them at that position, and everything at every other
  pub placed_keeps : (position byte : ℕ) → Keeps chip image (placed chip position byte image)
  unfolding stored_at
  placed_keeps position byte k bits t = by_place (eqb k position) refl
    where
      new : ℕ
      new = stored (masks_in (row_of chip position)) (get_or image position 0) byte

      there : Fixed (row_of chip position) bits → (inside : Bool) → ltb position (length image) ≡ inside
          → bit_and (get_or (set image position new) position 0) bits ≡ bit_and (get_or image position 0) bits
      there (h, w, c) true e =
          ap (λ (y : ℕ). bit_and y bits) (get_or-set_same image position new 0 (ltb-true position (length image) e))
          ∙ kept_stored (masks_in (row_of chip position)) bits (get_or image position 0) byte h w c
      there f false e = ap (λ (l : List ℕ). bit_and (get_or l position 0) bits) (set_out image position new (ltb-false position (length image) e))

      by_place : (here : Bool) → eqb k position ≡ here → bit_and (get_or (set image position new) k 0) bits ≡ bit_and (get_or image k 0) bits
      by_place true e =
          let same = eqb-true k position e in
          rw same (there (subst (λ (a : ℕ). Fixed (row_of chip a) bits) same (fixed_facts (row_of chip k) bits t)) (ltb position (length image)) refl)
      by_place false e =
          ap (λ (y : ℕ). bit_and y bits) (stored_at_other (masks_in (row_of chip position)) position byte image k (eqb-false k position e))

  -- an initialization keeps them everywhere
  pub initialized_keeps : Keeps chip image (initialized chip image)
  initialized_keeps k bits t = by_place (ltb k (length image)) refl (fixed_facts (row_of chip k) bits t)
    where
      by_place : (inside : Bool) → ltb k (length image) ≡ inside → Fixed (row_of chip k) bits
          → bit_and (get_or (initialized chip image) k 0) bits ≡ bit_and (get_or image k 0) bits
      by_place true e (h, w, c) =
          ap (λ (y : ℕ). bit_and y bits) (initialized_at chip image k (ltb-true k (length image) e))
          ∙ kept_stored (mask_of (row_of chip k).writable) bits (get_or image k 0) (row_of chip k).power h w (and_zero_l bits)
      by_place false e f =
          let beyond = ltb-false k (length image) e in
          ap (λ (y : ℕ). bit_and y bits)
          (get_or-eq_default (initialized chip image) 0 (omega (arith, initialized_length chip image, beyond)) ∙ sym (get_or-eq_default image 0 beyond))

-- and so does every write on the bus, where it lands and everywhere else
pub landed_keeps : (chip : Chip) (position byte : ℕ) (image : List ℕ) → Keeps chip image (landed chip position byte image)
landed_keeps chip position byte image k bits t =
    landed_either chip position byte image (λ l. bit_and (get_or l k 0) bits ≡ bit_and (get_or image k 0) bits)
    (placed_keeps chip image position (settled (effects_of chip position) byte) k bits t)
    (λ e. initialized_keeps chip (placed chip position (settled (effects_of chip position) byte) image) k bits t ∙ e)

-- the test over a page's identity, carried to images that hold the same in these bits
module _ (chip : Chip) (old new : List ℕ) (same : Keeps chip old new) where
  kept : (rs : List Required) → So (every (lasting (sheet_of chip)) rs) → all_hold new rs ≡ all_hold old rs
  unfolding row_of
  kept [] t = refl
  kept (r ∷ rs) t =
      let parts = both (lasting (sheet_of chip) r) _ t in
      let unchanging = (both (ltb r.position (sheet_of chip).size) _ parts.0).1 in
      ap₂ ◌&&◌ (ap (λ (y : ℕ). eqb y r.value || eqb y r.other) (same r.position r.bits unchanging)) (kept rs parts.1)

  agrees_kept : (rs : List Required) → So (every (lasting (sheet_of chip)) rs) → agrees new rs ≡ agrees old rs
  agrees_kept [] t = refl
  agrees_kept (r ∷ rs) t = kept (r ∷ rs) t

  -- they are confirmed alike
  confirmed_kept : confirmed chip new ≡ confirmed chip old
  unfolding confirmed
  confirmed_kept = agrees_kept (sheet_of chip).identity (sound_sheet chip).identity

-- no write changes what identity sees
pub write_keeps_identity : (chip : Chip) (address byte : ℕ) (image : List ℕ)
    → confirmed chip (written chip address byte image) ≡ confirmed chip image
write_keeps_identity chip address byte image =
    confirmed_kept chip image (written chip address byte image) (landed_keeps chip (position chip image address) byte image)
