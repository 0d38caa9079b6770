-- What is true of every choice of bits is computed once: a test over both bits, and a law that brings it to the last digit of any number.
-- Assumes nothing.
use Prim.Native.Nat.{ℕ, zero, suc, ◌%◌, ◌<◌}
use native.Mathlib.Nat.{mod-lt, zero-lt-suc}
use native.Mathlib.Omega.{arith}
use mathlib.Core.Bool.{Bool, true, false, So, ◌&&◌, and-eq-true_iff}

abbrev pub bit : Bool → ℕ
bit false = 0
bit true = 1

-- a test that holds of both bits
abbrev pub every : (Bool → Bool) → Bool
every test = test false && test true

pub of_every : (test : Bool → Bool) → So (every test) → (b : Bool) → So (test b)
of_every test t false = ((and-eq-true_iff (test false) (test true)).0 t).0
of_every test t true = ((and-eq-true_iff (test false) (test true)).0 t).1

-- what holds of both bits holds of the last digit of every number
pub digit : (P : ℕ → Type 0) → ((b : Bool) → P (bit b)) → (x : ℕ) → P (x % 2)
digit P p x = below (x % 2) (mod-lt x (zero-lt-suc 1))
  where
    below : (y : ℕ) → y < 2 → P y
    below zero h = p false
    below (suc zero) h = p true
    below (suc (suc y)) h = absurd (omega arith)
