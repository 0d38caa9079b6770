-- Texts byte by byte. An input of more than 4,096 bytes has the text `input too long`, and no other input has it: the lines of records begin with `plan` or
-- `end`.
-- Assumes nothing.
use Prim.Native.Nat.{ℕ, zero, suc, ◌+◌, ◌≤◌, ◌<◌}
use native.Mathlib.Omega.{arith}
use mathlib.Core.Path.{◌≡◌, refl, sym, ap, ◌∙◌}
use mathlib.Core.Bool.{Bool, true, false, cond}
use mathlib.Core.List.{List, [], ◌∷◌, ◌++◌}
use lib.Dec.{eqb}
use lib.ListN.{length, get_or, drop}
use Rattle.curves.specs.declared.Plan.{Plan}
use Rattle.records.specs.Records.{plan_in}
use Rattle.translation.specs.Words.{decimal}
use Rattle.translation.specs.Text.{refusal_in, used_in, plan_text, refused_line, end_line, text_from, text_of}
use Rattle.translation.proofs.Answers.{text_too_long, text_read}

-- `input too long` and a line feed
abbrev pub input_too_long : List ℕ
input_too_long =
    0x69 ∷ 0x6E ∷ 0x70 ∷ 0x75 ∷ 0x74 ∷ 0x20 ∷ 0x74 ∷ 0x6F ∷ 0x6F ∷ 0x20 ∷ 0x6C ∷ 0x6F ∷ 0x6E ∷ 0x67 ∷ 0x0A ∷ []

-- "at most 4,096 bytes (longer: the single line `input too long`)"
pub longer : (input : List ℕ) → 4096 < length input → text_of input ≡ input_too_long
longer input h = sym (text_too_long input h)

end_begins : (plans : ℕ) → get_or (end_line plans) 0 0 ≡ 0x65
unfolding end_line
end_begins plans = refl

refused_begins : (number refusal : ℕ) → get_or (refused_line number refusal) 0 0 ≡ 0x70
unfolding refused_line
refused_begins number refusal = refl

plan_begins : (number : ℕ) (plan : Plan) (rest : List ℕ) → get_or (plan_text number plan ++ rest) 0 0 ≡ 0x70
unfolding plan_text
plan_begins number plan rest = refl

begins : (turns plans : ℕ) (bytes : List ℕ) → get_or (text_from turns plans bytes) 0 0 ≡ 0x69 → ⊥
begins zero plans bytes e = omega (arith, end_begins plans)
begins (suc turns) plans bytes e = by_left (eqb (length bytes) 0) e
  where
    more : List ℕ
    more = text_from turns (plans + 1) (drop (used_in bytes) bytes)

    by_check : (good : Bool) → get_or (cond good (plan_text (plans + 1) (plan_in bytes) ++ more) (refused_line (plans + 1) (refusal_in bytes))) 0 0 ≡ 0x69 → ⊥
    by_check true e = omega (arith, plan_begins (plans + 1) (plan_in bytes) more)
    by_check false e = omega (arith, refused_begins (plans + 1) (refusal_in bytes))

    by_left : (none : Bool)
        → get_or (cond none (end_line plans) (cond (eqb (refusal_in bytes) 0) (plan_text (plans + 1) (plan_in bytes) ++ more) (refused_line (plans + 1) (refusal_in bytes)))) 0 0 ≡ 0x69
        → ⊥
    by_left true e = omega (arith, end_begins plans)
    by_left false e = by_check (eqb (refusal_in bytes) 0) e

pub not_longer : (input : List ℕ) → length input ≤ 4096 → text_of input ≡ input_too_long → ⊥
not_longer input h e =
    begins (length input) 0 input (ap (λ (text : List ℕ). get_or text 0 0) (text_read input h ∙ e))

-- "Empty input prints `end 0`"
pub empty : text_of [] ≡ 0x65 ∷ 0x6E ∷ 0x64 ∷ 0x20 ∷ 0x30 ∷ 0x0A ∷ []
unfolding text_of end_line decimal
empty = refl

-- "At a refusal it prints `plan N refused R` and stops": a single byte is no header
pub cut_short : text_of (0x43 ∷ []) ≡ 0x70 ∷ 0x6C ∷ 0x61 ∷ 0x6E ∷ 0x20 ∷ 0x31 ∷ 0x20 ∷ 0x72 ∷ 0x65 ∷ 0x66 ∷ 0x75 ∷ 0x73 ∷ 0x65 ∷ 0x64 ∷ 0x20 ∷ 0x31 ∷ 0x0A ∷ []
unfolding text_of refusal_in refused_line decimal
cut_short = refl
