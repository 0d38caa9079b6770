-- `translate::text_of` meets its contract: a buffer of 40,979 bytes takes the text of any input, so no input is refused.
-- Assumes nothing.
use mathlib.Core.Path.{ap}
use Rattle.std.specs.Result.{is_ok}
use Rattle.translation.proofs.Answers.{always_written}
use Rattle.translate.proofs.text_of.Goals as goal

pub unwrap-requires : goal.unwrap-requires
unwrap-requires c = ap is_ok (always_written c.requires c.translate.ensures)
