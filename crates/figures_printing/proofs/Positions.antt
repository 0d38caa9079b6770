-- A position below 4,096, and an image is shorter, stands in three upper-case digits.
use Rattle.std.proofs.Common.{arith, refl, ◌∙◌, ◌≡◌, ◌/◌, ◌%◌, ◌<◌, ◌≤◌, ℕ, suc, List, [], ◌∷◌, inl, inr, true}
use Rattle.std.specs.Fmt.{digits, digits_onto, padded_integral, char_count, digit_glyph}
use Rattle.std.proofs.lemmas.Bool.{eq-eqb, ne_eqb, cases_lt}
use Rattle.std.proofs.lemmas.Fmt.{hex_one_digit, hex_two_digits}
use Rattle.figures_printing.specs.Pieces.{upper_digit, position_text}

last_digit : (k n : ℕ) (acc : List ℕ) → n / 16 ≡ 0 → digits_onto (suc k) 16 true n acc ≡ digit_glyph true (n % 16) ∷ acc
last_digit k n acc none = rw (eq-eqb _ 0 none) refl

next_digit : (k n : ℕ) (acc : List ℕ) → (n / 16 ≡ 0 → ⊥) → digits_onto (suc k) 16 true n acc ≡ digits_onto k 16 true (n / 16) (digit_glyph true (n % 16) ∷ acc)
next_digit k n acc more = rw (ne_eqb _ 0 more) refl

from_64 : (n : ℕ) → digits 16 true n ≡ digits_onto 64 16 true n []
unfolding digits
from_64 n = refl

hex_three_digits : (n : ℕ) → 256 ≤ n → n < 4096 → digits 16 true n ≡ digit_glyph true (n / 16 / 16 % 16) ∷ digit_glyph true (n / 16 % 16) ∷ digit_glyph true (n % 16) ∷ []
hex_three_digits n large small =
    from_64 n ∙ next_digit 63 n [] (omega arith) ∙ next_digit 62 (n / 16) (digit_glyph true (n % 16) ∷ []) (omega arith)
    ∙ last_digit 61 (n / 16 / 16) (digit_glyph true (n / 16 % 16) ∷ digit_glyph true (n % 16) ∷ []) (omega arith)

pub position_in_three_digits : (at : ℕ) → at < 4096 → position_text at ≡ upper_digit (at / 256) ∷ upper_digit (at / 16) ∷ upper_digit at ∷ []
unfolding padded_integral char_count
position_in_three_digits at small =
    elim (cases_lt at 16) [
      | inl one ↦
          let first : at / 256 % 16 ≡ 0 = omega arith in
          let second : at / 16 % 16 ≡ 0 = omega arith in
          let third : at % 16 ≡ at = omega arith in
          rw (hex_one_digit true at one, first, second, third) refl
      | inr more ↦
          elim (cases_lt at 256) [
            | inl two ↦
                let first : at / 256 % 16 ≡ 0 = omega arith in
                let second : at / 16 % 16 ≡ at / 16 = omega arith in
                rw (hex_two_digits true at more two, first, second) refl
            | inr three ↦
                let first : at / 16 / 16 % 16 ≡ at / 256 % 16 = omega arith in
                rw (hex_three_digits at three small, first) refl
          ]
    ]
