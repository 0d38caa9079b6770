-- `number` meets its contract: the digits that the library formats are the number's.
-- Assumes nothing.
use native.Mathlib.Omega.{arith}
use mathlib.Core.Path.{◌≡◌, sym, ap, ◌∙◌}
use lib.ListN.{length}
use Rattle.translation.specs.Words.{decimal}
use Rattle.translation.proofs.Adding.{adds_as}
use Rattle.translation.proofs.Decimals.{printed}
use Rattle.translation.proofs.output.Output.number.Goals as goal

pub append-requires : goal.append-requires
append-requires c =
    let text : c.as_bytes.result.now ≡ decimal c.args.number = c.as_bytes.ensures.value ∙ c.format.ensures.text ∙ sym (printed c.args.number c.ranges.number.fits) in
    omega (arith, ap length text, c.requires)

pub returns : goal.returns
returns c =
    let text : c.as_bytes.result.now ≡ decimal c.args.number = c.as_bytes.ensures.value ∙ c.format.ensures.text ∙ sym (printed c.args.number c.ranges.number.fits) in
    adds_as text c.append.ensures
