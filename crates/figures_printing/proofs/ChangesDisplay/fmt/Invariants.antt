use Rattle.std.proofs.Common.{◌≡◌, ℕ, List, ◌++◌}
use Rattle.std.specs.Fmt.{HasWritten, IsPlainFormatter}
use Rattle.figures_printing.specs.Pieces.{changes_from}
use Rattle.figures_printing.proofs.ChangesDisplay.fmt.Given as goal

abbrev pub invariant-loop-at : goal.invariant-loop-at
invariant-loop-at g l =
    (goal.iterator-loop-at g).can_next l.at-iterator
    × (goal.iterator-loop-at g).is_finite l.at-iterator
    × (IsPlainFormatter l.fn.f → (done : List ℕ) × HasWritten g.W.Write.write_str_gives l.fn.f done l.f
    × (done ++ changes_from l.at-iterator.count l.at-iterator.iter.a.rest.now l.at-iterator.iter.b.rest.now ≡ changes_from 0 l.fn.self.old.now l.fn.self.new.now))
