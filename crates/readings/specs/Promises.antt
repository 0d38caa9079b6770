-- What the calls of `readings` promise for every input: the paper's number and values for each case of an answer, and a record for each call.
-- Assumes nothing.
use Rattle.std.specs.Prelude.{ℕ, ◌≡◌, not, List, [], ◌∷◌, ℤ, pos, Result}
use Rattle.refusal.specs.declared.Refusal.{Refusal}
use Rattle.refusal.specs.Checks.{Check, told_or}
use Rattle.refusal.specs.Answers.{tells_or}
use Rattle.readings.specs.Readings.{is_width, as_word, fits, steps_at, bytes_at, voltage}

-- "temperatures 11, and towards bytes then 12"
abbrev pub steps_checks : ℕ → List Check
steps_checks width = (not (is_width width), 11) ∷ []

abbrev pub bytes_checks : ℕ → ℤ → List Check
bytes_checks width steps = (not (is_width width), 11) ∷ (not (fits width steps), 12) ∷ []

-- the paper's number, 0 where the call is accepted, and the values of each case of an answer
abbrev pub tells_steps : Result ℤ Refusal → ℕ × ℤ
tells_steps r = tells_or (pos 0) r

abbrev pub tells_bytes : Result (ℕ × ℕ) Refusal → ℕ × (ℕ × ℕ)
tells_bytes r = tells_or (0, 0) r

-- what `readings::as_word` promises
pub record Encodes (number : ℤ) (word : ℕ) : Type 0 where
  pub answer : word ≡ as_word number

-- what `readings::steps_of` promises
pub record CountsSteps (width high low : ℕ) (r : Result ℤ Refusal) : Type 0 where
  pub answer : tells_steps r ≡ told_or (pos 0) (steps_checks width) (steps_at width high low)

-- what `readings::bytes_of` promises
pub record GivesBytes (width : ℕ) (steps : ℤ) (r : Result (ℕ × ℕ) Refusal) : Type 0 where
  pub answer : tells_bytes r ≡ told_or (0, 0) (bytes_checks width steps) (bytes_at width steps)

-- what `readings::microvolts` promises
pub record Measures (word microvolts : ℕ) : Type 0 where
  pub answer : microvolts ≡ voltage word
