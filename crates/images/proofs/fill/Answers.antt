-- `images::fill` meets its contract: the places passed hold the power-on values of their rows.
-- Assumes nothing.
use Prim.Native.Nat.{ℕ}
use native.Mathlib.Omega.{arith}
use lib.ListN.{length}
use Rattle.pages.specs.Rows.{column}
use Rattle.pages.specs.Cards.{row_of}
use Rattle.pages.proofs.Columns.{column_length, column_at}
use Rattle.pages.proofs.Filling.{filled_all}
use Rattle.images.proofs.fill.Goals as goal

pub returns : goal.returns
returns c =
    let loop = c.loop-at in
    let size = length c.args.working.now in
    let power : ℕ → ℕ = λ k. (row_of c.args.chip k).power in
    filled_all loop.invariant (omega arith) (column size power) (column_length size power) (column_at size power)
