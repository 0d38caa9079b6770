-- `readings::does_fit` meets its contract: 1 << (w - 1) is 2 ^ (w - 1) at a width of at most 12, and the two tests are those of `fits`.
-- Assumes nothing.
use Prim.Native.Nat.{◌-◌, ◌*◌, ◌%◌, ◌^◌, ◌<◌}
use native.Mathlib.Omega.{arith}
use mathlib.Core.Path.{◌≡◌}
use lib.Pow.{pow-lt}
use lib.IntN.{pos, negsuc, ◌-ℤ◌}
use mir.Syntax.{w16}
use mir.Val.{to_z, SFits}
use mir.Facts.{to_z-of_z}
use Rattle.readings.proofs.Widths.{bounds, least, below_zero, reach_is}
use Rattle.readings.proofs.does_fit.Goals as goal

pub returns : goal.returns
returns c =
    let below = c.args.width - 1 in
    let reach : to_z w16 (1 * 2 ^ below % 65536) ≡ pos (2 ^ below) = reach_is below (omega (arith, bounds c.args.width c.requires)) in
    let lower : pos 0 -ℤ to_z w16 (1 * 2 ^ below % 65536) ≡ negsuc (2 ^ below - 1) = rw reach (below_zero below) in
    let small : 2 ^ below < 2 ^ 15 = pow-lt {j = 15} (omega (arith, bounds c.args.width c.requires)) in
    let fits : SFits w16 (pos 0 -ℤ to_z w16 (1 * 2 ^ below % 65536)) = rw lower (record { sfits = omega arith }) in
    rw (to_z-of_z fits, lower, to_z-of_z c.ranges.steps, reach, ← least below)
