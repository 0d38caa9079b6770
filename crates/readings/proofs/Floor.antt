-- `floored` is the quotient "rounded towards minus infinity": what it leaves of the dividend is at least 0 and below the divisor.
-- Assumes nothing.
use Prim.Native.Nat.{ℕ, suc, ◌+◌, ◌-◌, ◌*◌, ◌/◌, ◌%◌, ◌<◌}
use native.Mathlib.Omega.{arith}
use native.Mathlib.Nat.{div-add-mod', mod-lt, suc-mul}
use mathlib.Core.Path.{◌≡◌, refl, sym, ap}
use lib.IntN.{ℤ, pos, negsuc, ◌+ℤ◌, ◌*ℤ◌}
use lib.Signed.{shr_z}
use Rattle.readings.specs.Readings.{floored}
use Rattle.readings.proofs.Integers.{below, negated}

pub floored_rounds_down : (z : ℤ) (m : ℕ) → 0 < m → (rest : ℕ) × ((rest < m) × (z ≡ floored z m *ℤ pos m +ℤ pos rest))
floored_rounds_down (pos n) m h = (n % m, (mod-lt n h, ap pos (sym (div-add-mod' n m))))
floored_rounds_down (negsuc n) m h =
    let whole : n / m * m + n % m ≡ n = div-add-mod' n m in
    let more : suc (n / m) * m ≡ n / m * m + m = suc-mul (n / m) m in
    let small : n % m < m = mod-lt n h in (
      m - suc (n % m),
      (
        omega arith,
        rw (negated (suc (n / m) * m) (omega arith), below (m - suc (n % m)) (suc (suc (n / m) * m - 1)) (omega arith))
            (ap negsuc (omega arith)),
      ),
    )

-- the machine's signed shift is that quotient by a power of two
pub floored_is : (z : ℤ) (m : ℕ) → shr_z z m ≡ floored z m
floored_is (pos n) m = refl
floored_is (negsuc n) m = refl
