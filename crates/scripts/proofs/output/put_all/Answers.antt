-- `output::put_all` meets its contract: as many pairs as there are writes.
-- Assumes nothing.
use Rattle.std.proofs.Common.{◌≡◌, ◌^◌, ◌<◌, length, ◌∙◌, sym, ap, arith, inl, rules}
use Rattle.std.specs.declared.iter.Enumerate.{Enumerate}
use Rattle.scripts.specs.declared.making.Writes.{Writes}
use Rattle.scripts.specs.Left.{left_of}
use Rattle.scripts.proofs.Walk.{coming_length}
use Rattle.scripts.proofs.Turns.{putting_first, put_all, put_none}
use Rattle.scripts.proofs.output.put_all.Goals as goal

left_length : (w : Writes) → length (left_of w) ≡ w.left
left_length w = coming_length w.load w.body w.cursor w.left

pub returns-then-out-count : goal.returns-then-out-count
returns-then-out-count c =
    put_none (left_of c.args.writes) c.args.out.now (omega (arith, left_length c.args.writes, c.if-out-count.true))

pub loop-k-init-derived : goal.loop-k-init-derived
loop-k-init-derived c =
    let it = c.into_iter-k-iterator in
    let source : it.result.iter ≡ c.args.writes = ap (λ (e : Enumerate Writes). e.iter) it.ensures.into_iter_gives ∙ c.enumerate-k-items.ensures.source in
    let count : it.result.count ≡ 0 = ap (λ (e : Enumerate Writes). e.count) it.ensures.into_iter_gives ∙ c.enumerate-k-items.ensures.count in
    let left : length (left_of it.result.iter) ≡ c.args.writes.left = ap (λ (w : Writes). length (left_of w)) source ∙ left_length c.args.writes in
    let fits : c.args.writes.left < 2 ^ 64 = search rules in
    ((tt, tt, inl (omega (arith, count, left, fits))), tt)

pub loop-k-init : goal.loop-k-init
loop-k-init c =
    let it = c.into_iter-k-iterator in
    putting_first (ap (λ (e : Enumerate Writes). left_of e.iter) it.ensures.into_iter_gives ∙ ap left_of c.enumerate-k-items.ensures.source)
    (ap (λ (e : Enumerate Writes). e.count) it.ensures.into_iter_gives ∙ c.enumerate-k-items.ensures.count)
    (omega (arith, left_length c.args.writes, c.if-out-count.false))

pub returns : goal.returns
returns c = put_all (sym (left_length c.args.writes)) c.loop-k.invariant c.in-None.ensures.steps.0.0
