-- `plans::tables::held` meets its contract: each place holds the writable bits of its register.
-- Assumes nothing.
use Prim.Native.Nat.{ℕ, ◌<◌}
use mathlib.Core.Path.{sym, ◌∙◌, subst}
use borrow.Author.Rules.{rules}
use lib.Seq.{ext_get_or}
use Rattle.pages.specs.Rows.{column, stands_at}
use Rattle.pages.specs.Sheets.{longest}
use Rattle.pages.proofs.Columns.{column_length, column_at}
use Rattle.plans.specs.Parts.{worth_at}
use Rattle.plans.proofs.Made.{made}
use Rattle.plans.proofs.tables.held.Goals as goal

pub returns : goal.returns
returns c =
    let a = c.args in
    let f : ℕ → ℕ = λ k. worth_at (stands_at a.stretches k) a.image.now in
    let long = c.from_fn.ensures.items.long in
    ext_get_or 0 c.from_fn.result (column longest f) (long ∙ sym (column_length longest f))
    (λ k h.
    let low : k < longest = subst (λ (n : ℕ). k < n) long h in
    made _ _ f (λ j y q called. search rules) c.from_fn.result longest k c.from_fn.ensures.items low ∙ sym (column_at longest f k low))
