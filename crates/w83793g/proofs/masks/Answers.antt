-- `w83793g::masks` meets its contract: a position is its bank and its address, and no line clears a bit.
use Rattle.std.proofs.Common.{◌≡◌, ℕ, ◌+◌, ◌*◌, ◌/◌, ◌%◌, refl, ap, ap₂, ◌∙◌, arith}
use Rattle.pages.specs.declared.Chip.TheVariants.{W83793g}
use Rattle.pages.specs.Rows.{row, masks_in, row_in}
use Rattle.pages.specs.Cards.{sheet_of, row_of}
use Rattle.pages.specs.W83793g.{card}
use Rattle.pages.specs.W83793gBank0 as bank0
use Rattle.pages.specs.W83793gBank1 as bank1
use Rattle.pages.specs.W83793gBank2 as bank2
use Rattle.pages.proofs.Lines.{clearless}
use Rattle.w83793g.proofs.masks.Goals as goal

no-clears : (position : ℕ) → 0x00 ≡ (row_of W83793g position).clears
unfolding sheet_of card bank0.bank bank1.bank bank2.bank
no-clears position = clearless W83793g position refl

pub returns : goal.returns
unfolding sheet_of row_of
returns c =
    let position = c.args.position in
    let whole : position / 256 * 256 + position % 256 ≡ position = omega arith in
    record {
      answer =
          ap₂ (λ (w clears : ℕ). masks_in (row w clears 0x00))
          (c.writable.ensures ∙ ap (λ (p : ℕ). (row_in card p).writable) whole) (no-clears position);
    }
