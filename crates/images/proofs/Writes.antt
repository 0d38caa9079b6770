-- What a write on the bus does to an image, by the effects of the register where it lands: where that only stores, it touches one position only. What lies
-- above goes by these laws: no other crate opens `landed` or `initialized`.
-- Assumes nothing.
use Rattle.std.specs.Prelude.{Result, Some, ⊤}
use Rattle.refusal.specs.declared.Refusal.{Refusal}
use Prim.Native.Nat.{ℕ, ◌^◌, ◌<◌}
use native.Mathlib.Omega.{arith}
use mathlib.Core.Path.{◌≡◌, refl, sym, ap, subst, ◌∙◌}
use mathlib.Core.Bool.{Bool, true, false, So, cond, not}
use mathlib.Core.List.{List, [], map}
use mathlib.Core.Logic.{inl, inr}
use borrow.Author.Tests.{eq-eqb}
use lib.Bits.{bit_and, and_zero_r, and_le_l}
use lib.Dec.{eqb}
use lib.ListN.{length, get_or}
use Rattle.refusal.specs.Answers.{tells}
use Rattle.pages.specs.declared.Chip.{Chip}
use Rattle.pages.specs.declared.Effects.{Effects}
use Rattle.pages.specs.Rows.{masks_in, mask_of, no_effects}
use Rattle.pages.specs.Cards.{sheet_of, chip_of, row_of, effects_of, size_of}
use Rattle.pages.proofs.Acting as acting
use Rattle.pages.proofs.Apart.{row_narrow}
use Rattle.pages.proofs.Columns.{column_length, column_at}
use Rattle.pages.proofs.Sound.{none_of}
use Rattle.images.specs.Bytes.{placed, initial_byte, initialized, initializes, settled, landed, position, written, seen}
use Rattle.images.specs.Promises.{WritesByte}
use Rattle.images.proofs.Laws.{stored_under, stored_at_length, stored_at_other, stored_at_under, stored_at_closed}
use Rattle.images.proofs.Masks.{without_gone}

module _ (chip : Chip) (image : List ℕ) where
  pub initialized_length : length (initialized chip image) ≡ length image
  unfolding initialized
  initialized_length = column_length (length image) (λ k. initial_byte (row_of chip k) (get_or image k 0))

  pub initialized_at : (k : ℕ) → k < length image → get_or (initialized chip image) k 0 ≡ initial_byte (row_of chip k) (get_or image k 0)
  unfolding initialized
  initialized_at k h = column_at (length image) (λ k. initial_byte (row_of chip k) (get_or image k 0)) k h

  -- bits that are all writable have their power-on values
  initialized_sets : (k bits : ℕ) → k < length image → bit_and (row_of chip k).writable bits ≡ bits
      → bit_and (get_or (initialized chip image) k 0) bits ≡ bit_and (row_of chip k).power bits
  initialized_sets k bits h w =
      ap (λ (y : ℕ). bit_and y bits) (initialized_at k h)
      ∙ stored_under (mask_of (row_of chip k).writable) (get_or image k 0) (row_of chip k).power bits w (row_narrow chip k).2

module _ (chip : Chip) (position byte : ℕ) (image : List ℕ) where
  -- once what lasts of the byte is stored
  abbrev after : List ℕ
  after = placed chip position (settled (effects_of chip position) byte) image

  after_length : length after ≡ length image
  after_length = stored_at_length (masks_in (row_of chip position)) position (settled (effects_of chip position) byte) image

  -- by its byte it stores only, or initializes too
  pub landed_stores : initializes (effects_of chip position) byte ≡ false → landed chip position byte image ≡ after
  unfolding landed
  landed_stores e = ap (λ (b : Bool). cond b (initialized chip after) after) e

  pub landed_more : initializes (effects_of chip position) byte ≡ true → landed chip position byte image ≡ initialized chip after
  unfolding landed
  landed_more e = ap (λ (b : Bool). cond b (initialized chip after) after) e

  -- Where the register only stores, the write is its byte at that one position.
  pub landed_alone : effects_of chip position ≡ no_effects → landed chip position byte image ≡ placed chip position byte image
  landed_alone e =
      let none = and_zero_r byte in
      landed_stores (ap (λ (f : Effects). initializes f byte) e ∙ ap (λ (bits : ℕ). not (eqb bits 0)) none)
      ∙ ap (λ (f : Effects). placed chip position (settled f byte) image) e
      ∙ ap (λ (b : ℕ). placed chip position b image) (omega (arith, none))

  -- what holds of the image once the byte is stored, and also where it is then initialized, holds after the write
  pub landed_either : (P : List ℕ → Type 0) → P after → (P after → P (initialized chip after)) → P (landed chip position byte image)
  unfolding landed
  landed_either P p then = by_test (initializes (effects_of chip position) byte)
    where
      by_test : (b : Bool) → P (cond b (initialized chip after) after)
      by_test true = then p
      by_test false = p

  -- so the image keeps its length
  pub landed_length : length (landed chip position byte image) ≡ length image
  landed_length = landed_either (λ l. length l ≡ length image) after_length (λ e. initialized_length chip after ∙ e)

  -- "Every other address keeps its byte", but where the write initializes ..
  pub landed_other : initializes (effects_of chip position) byte ≡ false → (k : ℕ) → (k ≡ position → ⊥)
      → get_or (landed chip position byte image) k 0 ≡ get_or image k 0
  landed_other e k h =
      ap (λ (l : List ℕ). get_or l k 0) (landed_stores e)
      ∙ stored_at_other (masks_in (row_of chip position)) position (settled (effects_of chip position) byte) image k h

  -- .. "after a write that sets it all writable bits of the card, that bit included, have power-on values" ..
  pub landed_initializes : initializes (effects_of chip position) byte ≡ true → (k bits : ℕ) → k < length image
      → bit_and (row_of chip k).writable bits ≡ bits → bit_and (get_or (landed chip position byte image) k 0) bits ≡ bit_and (row_of chip k).power bits
  landed_initializes e k bits h w =
      ap (λ (l : List ℕ). bit_and (get_or l k 0) bits) (landed_more e)
      ∙ initialized_sets chip after k bits (omega (arith, after_length, h)) w

  -- .. and after any write a bit that clears itself reads 0
  pub fleeting_gone : length image ≡ size_of chip → byte < 2 ^ 8
      → bit_and (get_or (landed chip position byte image) position 0) (effects_of chip position).fleeting ≡ 0
  fleeting_gone long h = of_known (acting.effects_known chip position)
    where
      of_known : acting.Known chip position → bit_and (get_or (landed chip position byte image) position 0) (effects_of chip position).fleeting ≡ 0
      of_known (inl none) =
          ap (λ (f : Effects). bit_and (get_or (landed chip position byte image) position 0) f.fleeting) none
          ∙ and_zero_r (get_or (landed chip position byte image) position 0)
      of_known (inr (i, f)) = by_test (initializes (effects_of chip position) byte) refl
        where
          by_test : (b : Bool) → initializes (effects_of chip position) byte ≡ b
              → bit_and (get_or (landed chip position byte image) position 0) (effects_of chip position).fleeting ≡ 0
          by_test true e =
              landed_initializes e position (effects_of chip position).fleeting (omega (arith, long, f.0.inside)) f.0.takes ∙ f.1
          by_test false e =
              ap (λ (l : List ℕ). bit_and (get_or l position 0) (effects_of chip position).fleeting) (landed_stores e)
              ∙ stored_at_under (masks_in (row_of chip position)) position (settled (effects_of chip position) byte) image (effects_of chip position).fleeting
              f.0.takes (omega (arith, h)) (omega (arith, long, f.0.inside))
              ∙ without_gone 8 byte (effects_of chip position).fleeting
              (omega (arith, f.0.takes, and_le_l (row_of chip position).writable (effects_of chip position).fleeting, (row_narrow chip position).0))

-- and so is every write of a chip whose page lists no effects
pub written_alone : (chip : Chip) (address byte : ℕ) (image : List ℕ) → (sheet_of chip).effects ≡ []
    → written chip address byte image ≡ placed chip (position chip image address) byte image
written_alone chip address byte image e =
    let at = position chip image address in
    landed_alone chip at byte image
    (acting.effects_quiet chip at (subst (λ (ls : List (ℕ × Effects)). So (none_of (map (λ l. l.0) ls) at)) (sym e) refl))

-- "A write to a row without masks is accepted and changes nothing."
pub write_closed : (number : ℕ) (chip : Chip) (address byte : ℕ) (old : List ℕ) {r : (Result ⊤ Refusal)} {new : List ℕ}
    → chip_of number ≡ Some chip → length old ≡ size_of chip
    → (row_of chip (position chip old address)).writable ≡ 0 → (row_of chip (position chip old address)).clears ≡ 0 → seen chip address old < 2 ^ 8
    → WritesByte number old address byte r new → (tells r ≡ 0) × (new ≡ old)
write_closed number chip address byte old named long e f h p =
    let size = eq-eqb (length old) (size_of chip) long in
    let at = position chip old address in
    let alone = landed_alone chip at byte old (acting.effects_closed chip at e) in
    (p.answer ∙ simp (named, size), p.bytes ∙ simp (named, size) (alone ∙ stored_at_closed (masks_in (row_of chip at)) at byte old e f h))
