-- "decimal" and "in hexadecimal": words and numbers as bytes of a text.
-- Assumes nothing.
use Rattle.std.specs.Prelude.{ℕ, zero, suc, ◌/◌, ◌%◌, cond, List, [], ◌∷◌, ◌++◌, ltb, get_or}
use Prim.Native.Char.{code}
use Prim.Native.String.{String, [] as nothing, ◌∷◌ as ◌then◌}

-- a word's bytes: the codes of its characters, which are all ASCII here
abbrev pub ascii : String → List ℕ
ascii nothing = []
ascii (c then cs) = code c ∷ ascii cs

abbrev pub digit : ℕ → ℕ
digit d = get_or (ascii "0123456789ABCDEF") d 0

-- "in hexadecimal": a byte is two digits
abbrev pub hexadecimal : ℕ → List ℕ
hexadecimal byte = digit (byte / 16) ∷ digit (byte % 16) ∷ []

-- "decimal", with no leading zero: a number below 10 is its digit, a larger one what it is without its last digit, and that digit.
-- Each step makes the number smaller, so n steps are enough for n.
abbrev pub decimal_in : ℕ → ℕ → List ℕ
decimal_in zero n = digit n ∷ []
decimal_in (suc steps) n = cond (ltb n 10) (digit n ∷ []) (decimal_in steps (n / 10) ++ (digit (n % 10) ∷ []))

unfoldable pub decimal : ℕ → List ℕ
decimal n = decimal_in n n
