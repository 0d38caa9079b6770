-- `images::bus::position` meets its contract: an access lands where its address stands in the bank selected.
-- Assumes nothing.
use Prim.Native.Nat.{ℕ}
use mathlib.Core.Path.{sym, ap, ◌∙◌}
use Rattle.pages.specs.Banks.{stands_in}
use Rattle.pages.specs.Cards.{banks_of}
use Rattle.images.proofs.Landing.{lands}
use Rattle.images.proofs.bus.position.Goals as goal

pub returns : goal.returns
returns c =
    let a = c.args in
    c.position_of.ensures.answer
    ∙ ap (λ (bank : ℕ). stands_in (banks_of a.chip) bank a.address) c.selected.ensures
    ∙ sym (lands a.chip a.image.now a.address)
