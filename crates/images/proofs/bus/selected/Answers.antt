-- `images::bus::selected` meets its contract: the bits that say the bank, where the chip's selector reads them.
-- Assumes nothing.
use Prim.Native.Nat.{ℕ}
use mathlib.Core.Path.{ap, ◌∙◌}
use lib.Bits.{bit_and}
use Rattle.images.proofs.Landing.{selected_by}
use Rattle.images.proofs.bus.selected.Goals as goal

pub returns : goal.returns
returns c =
    let a = c.args in
    ap (λ (byte : ℕ). bit_and byte c.selector_of-selector.result.bits) c.byte_at.ensures
    ∙ selected_by a.chip a.image.now c.selector_of-selector.result c.selector_of-selector.ensures.answer
