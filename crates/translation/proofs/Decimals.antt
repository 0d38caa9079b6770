-- Numbers in decimal are what the libraries print, and so they have few digits.
-- Assumes nothing.
use Prim.Native.Nat.{ℕ, zero, suc, ◌+◌, ◌/◌, ◌%◌, ◌^◌, ◌≤◌, ◌<◌}
use native.Mathlib.Nat.{not-suc-le-zero}
use native.Mathlib.Omega.{arith}
use mathlib.Core.Path.{◌≡◌, refl, sym, ap, ◌∙◌}
use mathlib.Core.Bool.{Bool, true, false, So, ◌&&◌, and-eq-true_iff}
use mathlib.Core.List.{List, [], ◌∷◌, ◌++◌}
use borrow.Author.Tests.{ltb-true, ltb-false, lt-ltb, le-ltb, eqb-true, eqb-false}
use lib.Dec.{eqb, ltb}
use lib.ListN.{length}
use Rattle.std.specs.Fmt.{decimal as Fmt·decimal}
use Rattle.std.proofs.lemmas.Fmt.{AppendsLastDigit, decimal_digit, decimal_step, decimal_from_appends, length-decimal-le, length-decimal-le_succ}
use Rattle.translation.specs.Words.{digit, decimal_in, decimal}

-- the digits 0 to 9 are the characters from 30h on
abbrev are_digits : ℕ → Bool
are_digits zero = true
are_digits (suc d) = eqb (digit d) (48 + d) && are_digits d

digit_below : (n : ℕ) → So (are_digits n) → (d : ℕ) → d < n → digit d ≡ 48 + d
digit_below zero t d h = absurd (not-suc-le-zero h)
digit_below (suc n) t d h =
    let both = (and-eq-true_iff (eqb (digit n) (48 + n)) (are_digits n)).0 t in
    by_place (eqb-true (digit n) (48 + n) both.0) (digit_below n both.1 d) (eqb d n) refl
  where
    by_place : digit n ≡ 48 + n → (d < n → digit d ≡ 48 + d) → (last : Bool) → eqb d n ≡ last → digit d ≡ 48 + d
    by_place here below true e = rw (eqb-true d n e) here
    by_place here below false e = below (omega (arith, eqb-false d n e))

digit_is : (d : ℕ) → d < 10 → digit d ≡ 48 + d
digit_is d h = digit_below 10 refl d h

appends : AppendsLastDigit decimal_in
appends = record {
  one = λ k n h. rw (lt-ltb n 10 h) (ap (λ (d : ℕ). d ∷ []) (digit_is n h));
  more = λ k n h. rw (le-ltb n 10 h) (ap (λ (d : ℕ). decimal_in k (n / 10) ++ (d ∷ [])) (digit_is (n % 10) (omega arith)));
}

pub printed : (n : ℕ) → n < 2 ^ 64 → decimal n ≡ Fmt·decimal n
unfolding decimal
printed zero h = sym (decimal_digit 0 (omega arith))
printed (suc m) h = by_size (ltb (suc m) 10) refl
  where
    by_size : (small : Bool) → ltb (suc m) 10 ≡ small → decimal_in (suc m) (suc m) ≡ Fmt·decimal (suc m)
    by_size true t =
        let small = ltb-true (suc m) 10 t in
        appends.one m (suc m) small ∙ sym (decimal_digit (suc m) small)
    by_size false t =
        let large = ltb-false (suc m) 10 t in
        let front = decimal_from_appends decimal_in appends m (suc m / 10) (omega arith) (omega (arith, length-decimal-le_succ (suc m / 10) (omega arith))) in
        appends.more m (suc m) large ∙ ap (λ (l : List ℕ). l ++ ((48 + suc m % 10) ∷ [])) front ∙ sym (decimal_step (suc m) large h)

pub one_digit : (n : ℕ) → n < 10 → length (decimal n) ≤ 1
one_digit n h = rw (printed n (omega arith)) (length-decimal-le 1 n (omega arith) h (omega arith))

pub two_digits : (n : ℕ) → n < 100 → length (decimal n) ≤ 2
two_digits n h = rw (printed n (omega arith)) (length-decimal-le 2 n (omega arith) h (omega arith))

pub three_digits : (n : ℕ) → n < 1000 → length (decimal n) ≤ 3
three_digits n h = rw (printed n (omega arith)) (length-decimal-le 3 n (omega arith) h (omega arith))
