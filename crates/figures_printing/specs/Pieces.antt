-- What a line is made of, where a wrong piece would hide what a call did: hexadecimal digits, a refusal's number, the words for a fact, and whether a
-- buffer is as it was filled.
-- Assumes nothing.
use Rattle.std.specs.Prelude.{ℕ, ◌+◌, ◌%◌, ◌/◌, ◌-◌, ◌^◌, ◌≡◌, Bool, false, true, cond, List, [], ◌∷◌, ◌++◌, ltb, eqb, decimal, codes, EachIndex, slice_index}
use Rattle.std.specs.Fmt.{digits, padded_integral, format_spec}
use Rattle.refusal.specs.declared.Refusal.{Refusal}
use Rattle.refusal.specs.Refusals.{number_of}

-- the last hexadecimal digit of a number: 0 to 9, then A to F
abbrev pub upper_digit : ℕ → ℕ
upper_digit d = cond (ltb (d % 16) 10) (48 + d % 16) (55 + d % 16)

-- a byte in two digits
abbrev pub byte_text : ℕ → List ℕ
byte_text byte = upper_digit (byte / 16) ∷ upper_digit byte ∷ []

-- a word in four digits, the high byte's first
abbrev pub word_text : ℕ → List ℕ
word_text word = byte_text (word / 256) ++ byte_text word

-- a position in three digits at least
abbrev pub position_text : ℕ → List ℕ
position_text at = padded_integral (format_spec 32 0 4 3 (2 ^ 64 - 1)) false [] (digits 16 true at)

-- a space, a position in three digits at least, a space, and a byte in two
abbrev pub placed_text : ℕ → ℕ → List ℕ
placed_text at byte = 32 ∷ (position_text at ++ (32 ∷ byte_text byte))

-- two by two: a space, and the digits of two bytes, or of the one that is left
abbrev pub bytes_text : List ℕ → List ℕ
bytes_text [] = []
bytes_text (byte ∷ []) = 32 ∷ byte_text byte
bytes_text (first ∷ second ∷ bytes) = 32 ∷ (byte_text first ++ (byte_text second ++ bytes_text bytes))

-- each byte of a new image that differs from the old one's, behind its position, from a position on, as far as both reach
abbrev pub changes_from : ℕ → List ℕ → List ℕ → List ℕ
changes_from at [] new = []
changes_from at (o ∷ old) [] = []
changes_from at (o ∷ old) (n ∷ new) = cond (eqb o n) [] (placed_text at n) ++ changes_from (at + 1) old new

-- a refusal's number
abbrev pub refused_text : Refusal → List ℕ
refused_text refusal = codes "refused " ++ decimal (number_of refusal)

-- the word for a fact
abbrev pub on_off_text : Bool → List ℕ
on_off_text fact = cond fact (codes "on") (codes "off")

-- every byte is 5Ah
abbrev pub all_filled : List ℕ → Type 0
all_filled bytes = EachIndex bytes (λ k. slice_index bytes k ≡ 0x5A)

-- the word on a lent buffer: whether every byte still is 5Ah
pub record SaysKept (buffer text : List ℕ) : Type 0 where
  pub filled : all_filled buffer → text ≡ codes " kept"
  pub altered : (all_filled buffer → ⊥) → text ≡ []
