-- What `translation::translate` promises.
-- Assumes nothing.
use Rattle.std.specs.Prelude.{ℕ, ◌≡◌, List, ◌++◌, length, drop, Result}
use Rattle.refusal.specs.declared.Refusal.{Refusal}
use Rattle.refusal.specs.Answers.{tells_amount}
use Rattle.refusal.specs.Checks.{told, left, room_checks}
use Rattle.translation.specs.Text.{text_of}

-- what `translation::translate` promises: refused 9 where "the output buffer is shorter than the result"; "An output longer than the result
-- keeps its tail." The input is only read, so it is what it was.
pub record Translates (input old : List ℕ) (r : Result ℕ Refusal) (new : List ℕ) : Type 0 where
  pub answer : tells_amount r ≡ told (room_checks (length (text_of input)) old) (length (text_of input))
  pub bytes : new ≡ left (room_checks (length (text_of input)) old) (text_of input ++ drop (length (text_of input)) old) old
