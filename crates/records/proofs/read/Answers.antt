-- `records::read` meets its contract: a header, a mark and a table that is found, and else the first that is missing.
-- Assumes nothing.
use mathlib.Core.Path.{◌≡◌, sym, ap, ◌∙◌}
use mathlib.Core.Bool.{not, false}
use mathlib.Core.List.{List, ◌∷◌, ◌++◌}
use borrow.Author.Tests.{le-ltb}
use lib.ListN.{get_or}
use Rattle.refusal.specs.Checks.{Check}
use Rattle.plans.specs.Promises.{order_checks}
use Rattle.records.specs.Records.{chip_number_in, table_number_in, body_in, plan_in}
use Rattle.records.specs.Promises.{wrong_mark, other_mark, fill_checks}
use Rattle.records.proofs.Answers.{record_refused}
use Rattle.records.proofs.Lookups.{looked_refused}
use Rattle.records.proofs.read.Goals as goal

pub returns-in-Err : goal.returns-in-Err
returns-in-Err c =
    let bytes = c.args.bytes.now in
    let chip = chip_number_in bytes in
    let table = table_number_in bytes in
    let mark : wrong_mark bytes ≡ false = ap not (sym c.is_mark.ensures ∙ c.if-not-is_mark.false) in
    let behind : List Check = (other_mark (get_or bytes 1 0) chip table, 16) ∷ (fill_checks chip table (body_in bytes) ++ order_checks (plan_in bytes)) in
    record_refused bytes c.refused-in-Err.ensures
    (rw (le-ltb _ _ c.if-bytes-lt4.false, mark) (looked_refused chip table _ behind c.in-Err.ensures))
