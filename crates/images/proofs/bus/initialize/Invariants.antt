-- `images::bus::initialize` meets its contract: the places passed hold their initial bytes, and those ahead what they held.
-- Assumes nothing.
use Rattle.pages.specs.Cards.{row_of}
use Rattle.pages.proofs.Filling.{Remade}
use Rattle.images.specs.Bytes.{initial_byte}
use Rattle.images.proofs.bus.initialize.Given as goal

abbrev pub invariant-loop-at : goal.invariant-loop-at
invariant-loop-at l = Remade (λ k old. initial_byte (row_of l.chip k) old) l.initial.image l.image l.at
