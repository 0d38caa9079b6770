-- `alarm::yk_sample` meets its contract: the library's answer is packed.
-- Assumes nothing.
use borrow.Author.Rules.{rules}
use Rattle.clib.proofs.alarm.yk_sample.Goals as goal

pub returns : goal.returns
returns c = record { answer = c.sample-sampled.result; kept = search rules; same = search rules }
