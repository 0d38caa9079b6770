-- `w83793g::power` meets its contract: a position is its bank and its address.
use Rattle.std.proofs.Common.{◌≡◌, ℕ, ◌+◌, ◌*◌, ◌/◌, ◌%◌, ap, ◌∙◌, arith}
use Rattle.pages.specs.Rows.{row_in}
use Rattle.pages.specs.Cards.{sheet_of, row_of}
use Rattle.pages.specs.W83793g.{card}
use Rattle.w83793g.proofs.power.Goals as goal

pub returns : goal.returns
unfolding sheet_of row_of
returns c =
    let position = c.args.position in
    let whole : position / 256 * 256 + position % 256 ≡ position = omega arith in
    record { answer = c.power_on.ensures ∙ ap (λ (p : ℕ). (row_in card p).power) whole }
