-- `field` meets its contract: the number is added behind the word.
-- Assumes nothing.
use native.Mathlib.Omega.{arith}
use lib.ListN.{length-append}
use Rattle.translation.specs.Words.{decimal}
use Rattle.translation.proofs.Adding.{adds_then}
use Rattle.translation.proofs.output.Output.field.Goals as goal

pub number-requires : goal.number-requires
number-requires c = omega (arith, c.requires, c.append.ensures.next, length-append c.args.word.now (decimal c.args.number))

pub returns : goal.returns
returns c = adds_then c.append.ensures c.number.ensures
