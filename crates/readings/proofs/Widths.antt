-- What the tests of a width say: the four widths lie from 8 to 12, and steps that fit w bits are those whose magnitude is below 2 ^ (w - 1).
-- Assumes nothing.
use Prim.Native.Nat.{ℕ, suc, ◌-◌, ◌*◌, ◌%◌, ◌^◌, ◌<◌, ◌≤◌}
use native.Mathlib.Omega.{arith}
use mathlib.Core.Path.{◌≡◌, refl, sym, ap, ◌∙◌}
use mathlib.Core.Bool.{Bool, true, false, false≢true, ◌||◌, and-true}
use lib.Dec.{ltb, leb, eqb, leb-suc-suc}
use lib.Pow.{pow_pos, pow-lt, suc_ones}
use lib.IntN.{ℤ, pos, negsuc, neg_ℤ, ◌-ℤ◌, +ℤ_idl}
use lib.Signed.{mag}
use borrow.Author.Tests.{eqb-true}
use mir.Syntax.{w16}
use mir.Val.{to_z}
use mir.Facts.{to_z_pos}
use Rattle.readings.specs.Readings.{is_width, fits}
use Rattle.readings.proofs.Integers.{negated}

among : (w : ℕ) (a b c d : Bool) → eqb w 8 ≡ a → eqb w 9 ≡ b → eqb w 11 ≡ c → eqb w 12 ≡ d → (a || (b || (c || d))) ≡ true → (8 ≤ w) × (w ≤ 12)
among w true b c d p q r s h = let e : w ≡ 8 = eqb-true w 8 p in omega arith
among w false true c d p q r s h = let e : w ≡ 9 = eqb-true w 9 q in omega arith
among w false false true d p q r s h = let e : w ≡ 11 = eqb-true w 11 r in omega arith
among w false false false true p q r s h = let e : w ≡ 12 = eqb-true w 12 s in omega arith
among w false false false false p q r s h = absurd (false≢true h)

pub bounds : (w : ℕ) → is_width w ≡ true → (8 ≤ w) × (w ≤ 12)
bounds w h = among w (eqb w 8) (eqb w 9) (eqb w 11) (eqb w 12) refl refl refl refl h

-- the least number of w bits
pub least : (k : ℕ) → neg_ℤ (pos (2 ^ k)) ≡ negsuc (2 ^ k - 1)
least k = negated (2 ^ k) (pow_pos k)

pub fits_is : (w : ℕ) (steps : ℤ) → fits w steps ≡ ltb (mag steps) (2 ^ (w - 1))
fits_is w (pos n) = rw (least (w - 1))
fits_is w (negsuc n) =
    rw (least (w - 1), and-true) (sym (leb-suc-suc n (2 ^ (w - 1) - 1)) ∙ ap (leb (suc n)) (suc_ones (w - 1)))

-- the code's 1 << (w - 1), and the same below 0
pub below_zero : (k : ℕ) → pos 0 -ℤ pos (2 ^ k) ≡ negsuc (2 ^ k - 1)
below_zero k = +ℤ_idl (neg_ℤ (pos (2 ^ k))) ∙ least k

pub reach_is : (k : ℕ) → k < 15 → to_z w16 (1 * 2 ^ k % 65536) ≡ pos (2 ^ k)
reach_is k h =
    let small : 2 ^ k < 2 ^ 15 = pow-lt h in
    let e : 1 * 2 ^ k % 65536 ≡ 2 ^ k = omega arith in
    rw (e, to_z_pos w16 small)
