-- A byte's two digits are upper-case.
use Rattle.std.proofs.Common.{rules, ◌≡◌, ◌/◌, ◌%◌, true, arith}
use Rattle.std.proofs.lemmas.Fmt.{hex_byte}
use Rattle.figures_printing.proofs.ByteDisplay.fmt.Goals as goal

pub returns-clause-writes : goal.returns-clause-writes
returns-clause-writes g c =
    let two = hex_byte true c.args.self.now.0 (omega arith) in
    let high : c.args.self.now.0 / 16 % 16 ≡ c.args.self.now.0 / 16 = omega arith in
    search rules
