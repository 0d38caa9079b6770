-- 16 times a number of 8 bits is one of 16 bits.
-- Assumes nothing.
use Prim.Native.Nat.{suc, ◌+◌, ◌*◌}
use native.Mathlib.Omega.{arith}
use mathlib.Core.Path.{◌≡◌}
use lib.IntN.{ℤ, pos, negsuc, ◌*ℤ◌}
use mir.Syntax.{w8, w16}
use mir.Val.{SFits}

pub product_fits : (z : ℤ) → SFits w8 z → SFits w16 (pos 16 *ℤ z)
product_fits (pos n) f = record { sfits = omega (arith, f.sfits) }
product_fits (negsuc n) f =
    let e : 16 * suc n ≡ suc (16 * n + 15) = omega arith in
    rw e (record { sfits = omega (arith, f.sfits) })
