-- Where two layers say the same of the rules paper, they agree: an alarm sample is what fits width 12, and a limit counts the steps of a degree at
-- width 12. By the sign of a number.
-- Assumes nothing.
use mathlib.Core.Path.{◌≡◌, refl, sym}
use lib.Dec.{leb-suc-suc}
use lib.IntN.{ℤ, pos, negsuc, ◌*ℤ◌, *ℤ_comm}
use Rattle.readings.specs.Readings.{fits, steps_per_degree}
use Rattle.watch.specs.Alarm.{is_sample, in_steps}

-- "An alarm sample is a 12-bit step count"
pub sample_fits : (steps : ℤ) → is_sample steps ≡ fits 12 steps
sample_fits (pos n) = sym (leb-suc-suc n 2047)
sample_fits (negsuc n) = refl

-- "each compared as 16 times as many steps", and "The step is .. 1/16 at 12"
pub limit_in_steps : (degrees : ℤ) → in_steps degrees ≡ degrees *ℤ pos (steps_per_degree 12)
limit_in_steps degrees = *ℤ_comm (pos 16) degrees
