-- A difference of two numbers and a negated number, each by its sign: a sum of integers computes only once the signs are known.
-- Assumes nothing.
use Prim.Native.Nat.{ℕ, zero, suc, ◌-◌, ◌<◌}
use native.Mathlib.Omega.{arith}
use mathlib.Core.Path.{◌≡◌, ap}
use lib.IntN.{pos, negsuc, neg_ℤ, sub_ℕ}
use borrow.Author.Tests.{lt-ltb}

pub below : (a b : ℕ) → a < b → sub_ℕ a b ≡ negsuc (b - suc a)
below a b h = rw (lt-ltb a b h)

pub negated : (n : ℕ) → 0 < n → neg_ℤ (pos n) ≡ negsuc (n - 1)
negated zero h = absurd (omega arith)
negated (suc n) h = ap negsuc (omega arith)
