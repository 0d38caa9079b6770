-- `identities::confirmed` meets its contract: as far as the loop has come every register agrees.
-- Assumes nothing.
use mathlib.Core.Path.{◌≡◌}
use mathlib.Core.Bool.{true}
use lib.ListN.{take}
use Rattle.pages.specs.Cards.{sheet_of}
use Rattle.pages.specs.Identity.{all_hold}
use Rattle.identities.proofs.confirmed.Given as goal

abbrev pub invariant-loop-k : goal.invariant-loop-k
invariant-loop-k l = all_hold l.image (take l.k (sheet_of l.chip).identity) ≡ true
