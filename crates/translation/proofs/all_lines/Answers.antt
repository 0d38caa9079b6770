-- `all_lines` meets its contract: an input that is not too long has the lines of its records.
-- Assumes nothing.
use native.Mathlib.Omega.{arith}
use Rattle.translation.proofs.Answers.{text_read}
use Rattle.translation.proofs.Adding.{adds_as}
use Rattle.translation.proofs.all_lines.Goals as goal

pub returns : goal.returns
returns c = adds_as (text_read _ (omega arith)) c.record_lines.ensures
