-- `images::bus::initialize` meets its contract: the places passed hold their initial bytes, and those ahead what they held.
-- Assumes nothing.
use Prim.Native.Nat.{ℕ}
use native.Mathlib.Omega.{arith}
use lib.ListN.{length, get_or}
use Rattle.pages.specs.Rows.{column}
use Rattle.pages.specs.Cards.{row_of}
use Rattle.pages.proofs.Columns.{column_length, column_at}
use Rattle.pages.proofs.Filling.{filled_all}
use Rattle.images.specs.Bytes.{initial_byte, initialized}
use Rattle.images.proofs.bus.initialize.Goals as goal

pub returns : goal.returns
unfolding initialized
returns c =
    let loop = c.loop-at in
    let a = c.args in
    let initial : ℕ → ℕ = λ k. initial_byte (row_of a.chip k) (get_or a.image.now k 0) in
    filled_all loop.invariant.filled (omega arith) (column (length a.image.now) initial)
    (column_length (length a.image.now) initial) (column_at (length a.image.now) initial)
