-- What the calls of `right_readings` promise for every input: readings of the NCT7904D, L1's "readings with the low three bits right-aligned in the low
-- byte".
-- Assumes nothing.
use Rattle.std.specs.Prelude.{ℕ, ◌≡◌, not, List, [], ◌∷◌, ℤ, Result}
use Rattle.refusal.specs.declared.Refusal.{Refusal}
use Rattle.refusal.specs.Checks.{Check, told_or}
use Rattle.readings.specs.Readings.{fits, steps_from, bytes_from}
use Rattle.readings.specs.Promises.{tells_bytes}
use Rattle.right_readings.specs.Inputs.{input_voltage}

-- "a number of steps doesn't fit the width", which is always 11 here, so that the check of the width falls away
abbrev pub right_checks : ℤ → List Check
right_checks steps = (not (fits 11 steps), 12) ∷ []

-- What `right_readings::right_steps` promises. Section 6.3: "The temperature data with 11-bit 2's complement format", of which "XXXX,X111" is a low byte;
-- so the unit of the low bits is 1.
pub record CountsRight (high low : ℕ) (steps : ℤ) : Type 0 where
  pub answer : steps ≡ steps_from 11 1 high low

-- what `right_readings::right_bytes` promises
pub record GivesRight (steps : ℤ) (r : Result (ℕ × ℕ) Refusal) : Type 0 where
  pub answer : tells_bytes r ≡ told_or (0, 0) (right_checks steps) (bytes_from 11 1 steps)

-- what `right_readings::input_microvolts` promises
pub record MeasuresInput (input high low microvolts : ℕ) : Type 0 where
  pub answer : microvolts ≡ input_voltage input high low
