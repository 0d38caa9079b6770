-- `curves::slope::duty_below` meets its contract: the first point that T is at most has passed all before it.
-- Assumes nothing.
use Prim.Native.Nat.{◌-◌}
use native.Mathlib.Omega.{arith}
use mathlib.Core.Path.{sym, ◌∙◌}
use borrow.Author.Tests.{leb-true, leb-false}
use lib.Dec.{leb}
use Rattle.std.proofs.lemmas.List.Quantifiers.{position-Some}
use Rattle.std.proofs.lemmas.Option.{unwrap_or-slice_get}
use Rattle.curves.proofs.Walks.{below_first, below_here, below_last}
use Rattle.curves.proofs.slope.duty_below.Goals as goal

pub returns-in-Some-eq0 : goal.returns-in-Some-eq0
returns-in-Some-eq0 c =
    let a = c.args in
    below_first a.full a.degrees.now a.duties.now a.at c.requires (cc)

pub mean-requires : goal.mean-requires
mean-requires c =
    let a = c.args in
    let found = position-Some (leb a.at) a.degrees.now c.in-Some.k 0 (sym c.first_ahead.ensures ∙ c.in-Some.is) in
    (leb-false a.at _ (found.2 (c.in-Some.k - 1) (omega arith)), leb-true a.at _ found.1)

pub returns-in-Some : goal.returns-in-Some
returns-in-Some c =
    let a = c.args in
    c.mean.ensures ∙ below_here a.full a.degrees.now a.duties.now a.at c.in-Some.k c.requires (omega arith) (sym c.first_ahead.ensures ∙ c.in-Some.is)

pub returns-in-None : goal.returns-in-None
returns-in-None c =
    let a = c.args in
    rw (c.unwrap_or.ensures, c.copied.ensures, c.last.ensures.value, unwrap_or-slice_get)
    (below_last a.full a.degrees.now a.duties.now a.at c.requires (sym c.first_ahead.ensures ∙ c.in-None.is))
