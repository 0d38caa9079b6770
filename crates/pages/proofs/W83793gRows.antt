-- Each bank of the W83793G has its rows in its own list: the lines of its banks follow one another.
-- Assumes nothing.
use Prim.Native.Nat.{ℕ, ◌≤◌, ◌<◌}
use native.Mathlib.Omega.{arith}
use mathlib.Core.Path.{◌≡◌, refl, ◌∙◌}
use mathlib.Core.List.{List, ◌++◌}
use Rattle.pages.specs.Rows.{Line, row_in}
use Rattle.pages.specs.W83793g.{card}
use Rattle.pages.specs.W83793gBank0 as bank0
use Rattle.pages.specs.W83793gBank1 as bank1
use Rattle.pages.specs.W83793gBank2 as bank2
use Rattle.pages.proofs.Pages.{rows_behind, rows_before}

-- the lines from bank 1 on
abbrev from1 : List Line
from1 = bank1.bank ++ bank2.bank

behind0 : (p : ℕ) → 256 ≤ p → row_in card p ≡ row_in from1 p
unfolding card bank0.bank
behind0 p h = rows_behind 256 bank0.bank from1 refl p h

pub in_bank_0 : (p : ℕ) → p < 256 → row_in card p ≡ row_in bank0.bank p
unfolding card bank1.bank bank2.bank
in_bank_0 p l = rows_before 256 bank0.bank from1 refl p l

pub in_bank_1 : (p : ℕ) → 256 ≤ p → p < 512 → row_in card p ≡ row_in bank1.bank p
unfolding bank2.bank
in_bank_1 p h l = behind0 p h ∙ rows_before 512 bank1.bank bank2.bank refl p l

pub in_bank_2 : (p : ℕ) → 512 ≤ p → row_in card p ≡ row_in bank2.bank p
unfolding bank1.bank
in_bank_2 p h = behind0 p (omega (arith, h)) ∙ rows_behind 512 bank1.bank bank2.bank refl p h
