-- "Plan record and script", the program: the text of a whole input.
-- Assumes nothing.
use Rattle.std.specs.Prelude.{ℕ, zero, suc, ◌+◌, cond, List, [], ◌∷◌, ◌++◌, eqb, ltb, length, drop}
use Prim.Native.String.{String}
use Rattle.refusal.specs.Checks.{first}
use Rattle.pages.specs.Cards.{chip_of, when_known}
use Rattle.curves.specs.declared.Plan.{Plan}
use Rattle.records.specs.Records.{chip_number_in, plan_in, record_length}
use Rattle.records.specs.Promises.{record_checks}
use Rattle.scripts.specs.Scripts.{Pair, script_for}
use Rattle.translation.specs.Words.{ascii, hexadecimal, decimal}

-- a word and a number behind it
abbrev pub field : String → ℕ → List ℕ
field word n = ascii word ++ decimal n

-- every line ends with a newline
abbrev pub line : List ℕ → List ℕ
line text = text ++ ascii "\n"

-- "a header line per plan (plan number from 1, chip, table, writes, decimal)"
abbrev pub header_line : ℕ → ℕ → ℕ → ℕ → List ℕ
header_line number chip table writes =
    line (field "plan " number ++ (field " chip " chip ++ (field " table " table ++ field " writes " writes)))

-- "one line per write (address and byte in hexadecimal)"
abbrev pub write_line : Pair → List ℕ
write_line w = line (hexadecimal w.0 ++ (ascii " " ++ hexadecimal w.1))

abbrev pub write_lines : List Pair → List ℕ
write_lines [] = []
write_lines (w ∷ ws) = write_line w ++ write_lines ws

-- an accepted plan: its header, then its script
unfoldable pub plan_text : ℕ → Plan → List ℕ
plan_text number plan =
    header_line number plan.chip plan.table (length (script_for plan)) ++ write_lines (script_for plan)

-- "At a refusal it prints `plan N refused R` and stops."
unfoldable pub refused_line : ℕ → ℕ → List ℕ
refused_line number refusal = line (field "plan " number ++ field " refused " refusal)

-- "when no byte is left, `end` with the number of plans"; "Empty input prints `end 0`"
unfoldable pub end_line : ℕ → List ℕ
end_line plans = line (field "end " plans)

-- "longer: the single line `input too long`"
abbrev pub too_long : List ℕ
too_long = line (ascii "input too long")

-- the record at the front of the bytes left: its refusal's number, 0 where it is accepted ..
unfoldable pub refusal_in : List ℕ → ℕ
refusal_in bytes = first (record_checks bytes)

-- .. and "the bytes used, 13 or 18"
unfoldable pub used_in : List ℕ → ℕ
used_in bytes = when_known (chip_of (chip_number_in bytes)) record_length 0

-- The text for the bytes that are left behind `plans` plans. An accepted record uses some of them, so a turn for each byte is enough.
abbrev pub text_from : ℕ → ℕ → List ℕ → List ℕ
text_from zero plans bytes = end_line plans
text_from (suc turns) plans bytes =
    cond (eqb (length bytes) 0) (end_line plans)
    (cond (eqb (refusal_in bytes) 0)
    (plan_text (plans + 1) (plan_in bytes) ++ text_from turns (plans + 1) (drop (used_in bytes) bytes))
    (refused_line (plans + 1) (refusal_in bytes)))

-- "The program reads plan records .., at most 4,096 bytes"
unfoldable pub text_of : List ℕ → List ℕ
text_of input = cond (ltb 4096 (length input)) too_long (text_from (length input) 0 input)
