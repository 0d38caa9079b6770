-- Each of a word's bytes has two upper-case digits.
use Rattle.std.proofs.Common.{rules, ◌≡◌, ◌/◌, ◌%◌, ap, ◌∙◌, true, arith, get_or}
use Rattle.std.proofs.lemmas.Fmt.{hex_byte}
use Rattle.figures_printing.proofs.WordDisplay.fmt.Goals as goal

pub returns-clause-writes : goal.returns-clause-writes
returns-clause-writes g c =
    let word = c.args.self.now.0 in
    let bytes = c.to_be_bytes.ensures in
    let first : get_or c.to_be_bytes.result 0 0 ≡ word / 256 = ap (λ l. get_or l 0 0) bytes ∙ omega arith in
    let second : get_or c.to_be_bytes.result 1 0 ≡ word % 256 = ap (λ l. get_or l 1 0) bytes in
    let high = hex_byte true (word / 256) (omega arith) in
    let low = hex_byte true (word % 256) (omega arith) in
    let of_high : word / 256 / 16 % 16 ≡ word / 256 / 16 = omega arith in
    let of_low : word / 16 % 16 ≡ word % 256 / 16 = omega arith in
    let of_low_low : word % 256 % 16 ≡ word % 16 = omega arith in
    search rules
