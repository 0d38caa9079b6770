-- `images::bus::land` meets its contract: by the masks and the effects of the register where the write lands.
-- Assumes nothing.
use Prim.Native.Nat.{ℕ, ◌-◌, ◌^◌, ◌<◌}
use mathlib.Core.Path.{◌≡◌, sym, ap, ◌∙◌}
use mathlib.Core.Bool.{not}
use mathlib.Core.List.{List}
use borrow.Author.Tests.{eq-eqb, ne_eqb}
use lib.Bits.{bit_and}
use Rattle.pages.specs.declared.Chip.{Chip}
use Rattle.pages.specs.declared.Effects.{Effects}
use Rattle.pages.specs.declared.Masks.{Masks}
use Rattle.pages.specs.Rows.{masks_in}
use Rattle.pages.specs.Cards.{row_of, effects_of}
use Rattle.images.specs.Bytes.{stored_at, placed, initialized, settled, landed}
use Rattle.images.proofs.Masks.{without}
use Rattle.images.proofs.Writes.{landed_stores, landed_more}
use borrow.Author.Rules.{rules}
use Rattle.images.proofs.bus.land.Goals as goal

module _ (chip : Chip) (at byte : ℕ) (image : List ℕ) (masks : Masks) (effects : Effects) (m : masks ≡ masks_in (row_of chip at))
    (e : effects ≡ effects_of chip at) (small : byte < 2 ^ 8) (few : effects.fleeting < 2 ^ 8) (middle : List ℕ)
    (stored : middle ≡ stored_at masks at (bit_and byte (2 ^ 8 - 1 - effects.fleeting)) image) where
  -- stored is what lasts of the byte ..
  lasting : middle ≡ placed chip at (settled (effects_of chip at) byte) image
  lasting =
      stored
      ∙ ap (λ (b : ℕ). stored_at masks at b image) (without 8 byte effects.fleeting small few)
      ∙ ap (λ (k : Masks). stored_at k at (settled effects byte) image) m
      ∙ ap (λ (f : Effects). placed chip at (settled f byte) image) e

  -- .. and then the bits that initialize say whether that is all
  all_done : bit_and byte effects.initialize ≡ 0 → middle ≡ landed chip at byte image
  all_done none =
      lasting ∙ sym (landed_stores chip at byte image (ap not (eq-eqb _ 0 (ap (λ (f : Effects). bit_and byte f.initialize) (sym e) ∙ none))))

  then-initialized : (new : List ℕ) → (bit_and byte effects.initialize ≡ 0 → ⊥) → new ≡ initialized chip middle → new ≡ landed chip at byte image
  then-initialized new some r =
      r
      ∙ ap (initialized chip) lasting
      ∙ sym (landed_more chip at byte image (ap not (ne_eqb _ 0 (λ q. some (ap (λ (f : Effects). bit_and byte f.initialize) e ∙ q)))))

pub returns-then-byte-effects-ne0 : goal.returns-then-byte-effects-ne0
returns-then-byte-effects-ne0 c =
    then-initialized c.args.chip c.args.at c.args.byte c.args.image.now _ c.effects_of-effects.result
    c.masks_of.ensures.answer c.effects_of-effects.ensures.answer c.ranges.byte.fits (search rules) _ c.place.ensures.bytes _
    c.if-byte-effects-ne0.true c.initialize.ensures

pub returns-else-byte-effects-ne0 : goal.returns-else-byte-effects-ne0
returns-else-byte-effects-ne0 c =
    all_done c.args.chip c.args.at c.args.byte c.args.image.now _ c.effects_of-effects.result
    c.masks_of.ensures.answer c.effects_of-effects.ensures.answer c.ranges.byte.fits (search rules) _ c.place.ensures.bytes
    c.if-byte-effects-ne0.false
