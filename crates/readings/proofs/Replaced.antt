-- A number of k bits whose bits under a mask are those of one number and whose others are those of another: each part is found again. By induction over k.
-- Assumes nothing.
use Prim.Native.Nat.{ℕ, zero, suc, ◌+◌, ◌-◌, ◌*◌, ◌/◌, ◌%◌, ◌^◌, ◌<◌, ◌≤◌, min}
use native.Mathlib.Omega.{arith}
use native.Mathlib.Nat.{pow-suc, add_comm, min-zero, min-le_right, min-eq_left}
use mathlib.Core.Path.{◌≡◌, sym, ap, ap₂, ◌∙◌, subst}
use lib.Bits.{bit_and, and_step, and_zero_r}
use lib.Pow.{pow_pos}

-- one bit of each, of which the mask lets one through
bit : (n : ℕ) → n % 2 < 2
bit n = omega arith

few : (p q m : ℕ) → p ≤ m → q ≤ 1 - m → m < 2 → p + q < 2
few p q m a b h = omega arith

chosen : (p q m : ℕ) → m < 2 → p ≤ m → q ≤ 1 - m → min (p + q) m ≡ p
chosen p q zero h a b = min-zero (p + q) ∙ omega arith
chosen p q (suc zero) h a b = min-eq_left (omega arith) ∙ omega arith
chosen p q (suc (suc m)) h a b = absurd (omega arith)

-- a sum whose lowest bits do not carry
halved : (a b x y p q : ℕ) → a ≡ x * 2 + p → b ≡ y * 2 + q → p + q < 2 → ((a + b) / 2 ≡ x + y) × ((a + b) % 2 ≡ p + q)
halved a b x y p q e f h = (omega arith, omega arith)

pub under_mask : (k new old mask : ℕ) → mask < 2 ^ k → bit_and (bit_and new mask + bit_and old (2 ^ k - 1 - mask)) mask ≡ bit_and new mask
under_mask zero new old mask h =
    let none : 0 ≡ mask = omega arith in
    let nothing : (n : ℕ) → bit_and n mask ≡ 0 = λ n. subst (λ (m : ℕ). bit_and n m ≡ 0) none (and_zero_r n) in
    nothing (bit_and new mask + bit_and old (2 ^ 0 - 1 - mask)) ∙ sym (nothing new)
under_mask (suc k) new old mask h =
    let two : 2 ^ suc k ≡ 2 ^ k * 2 = pow-suc 2 k in
    let rest : ℕ = 2 ^ suc k - 1 - mask in
    let half : rest / 2 ≡ 2 ^ k - 1 - mask / 2 = omega arith in
    let odd : rest % 2 ≡ 1 - mask % 2 = omega arith in
    let x : ℕ = bit_and (new / 2) (mask / 2) in
    let y : ℕ = bit_and (old / 2) (2 ^ k - 1 - mask / 2) in
    let p : ℕ = min (new % 2) (mask % 2) in
    let q : ℕ = min (old % 2) (rest % 2) in
    let p_most : p ≤ mask % 2 = min-le_right (new % 2) (mask % 2) in
    let q_most : q ≤ 1 - mask % 2 = subst (λ (n : ℕ). q ≤ n) odd (min-le_right (old % 2) (rest % 2)) in
    let one : bit_and new mask ≡ x * 2 + p = and_step new mask in
    let other : bit_and old rest ≡ y * 2 + q = and_step old rest ∙ ap (λ (n : ℕ). bit_and (old / 2) n * 2 + q) half in
    let parts = halved (bit_and new mask) (bit_and old rest) x y p q one other (few p q (mask % 2) p_most q_most (bit mask)) in
    and_step (bit_and new mask + bit_and old rest) mask
    ∙ ap₂ (λ (a b : ℕ). a * 2 + b)
    (ap (λ (n : ℕ). bit_and n (mask / 2)) parts.0 ∙ under_mask k (new / 2) (old / 2) (mask / 2) (omega arith))
    (ap (λ (n : ℕ). min n (mask % 2)) parts.1 ∙ chosen p q (mask % 2) (bit mask) p_most q_most)
    ∙ sym one

pub outside_mask : (k new old mask : ℕ) → mask < 2 ^ k
    → bit_and (bit_and new mask + bit_and old (2 ^ k - 1 - mask)) (2 ^ k - 1 - mask) ≡ bit_and old (2 ^ k - 1 - mask)
outside_mask k new old mask h =
    let rest : ℕ = 2 ^ k - 1 - mask in
    let back : mask ≡ 2 ^ k - 1 - rest = omega arith in
    let some : 0 < 2 ^ k = pow_pos k in
    ap (λ (n : ℕ). bit_and n rest) (add_comm (bit_and new mask) (bit_and old rest) ∙ ap (λ (m : ℕ). bit_and old rest + bit_and new m) back)
    ∙ under_mask k old new rest (omega arith)
