-- `pages::in_a_row` meets its contract: the k-th register of a stretch is k behind the first, and behind the last there is none.
-- Assumes nothing.
use native.Mathlib.Omega.{arith}
use mathlib.Core.List.{map}
use mathlib.Core.Path.{sym, ap, ◌∙◌}
use lib.ListN.{length-map, get_or-eq_default}
use Rattle.pages.specs.Rows.{from, with_masks, no_register}
use Rattle.pages.proofs.Columns.{run_length, run_at}
use Rattle.pages.proofs.Every.{map_at}
use Rattle.pages.proofs.in_a_row.Goals as goal

pub returns-then-stretch-k : goal.returns-then-stretch-k
returns-then-stretch-k c =
    let r = c.args.stretch in
    let row = from r.first r.count in
    sym (get_or-eq_default (map (with_masks r.masks) row) no_register
    (omega (arith, length-map row (with_masks r.masks), run_length (λ n. n) r.first r.count, c.if-stretch-k.true)))

pub returns : goal.returns
returns c =
    let r = c.args.stretch in
    let k = c.args.k in
    let row = from r.first r.count in
    sym (map_at (with_masks r.masks) row 0 no_register k (omega (arith, run_length (λ n. n) r.first r.count, c.if-stretch-k.false))
    ∙ ap (with_masks r.masks) (run_at (λ n. n) r.first r.count k c.if-stretch-k.false))
