-- Each bank of the NCT7904D has its rows in its own list: the lines of its banks follow one another.
-- Assumes nothing.
use Prim.Native.Nat.{ℕ, ◌≤◌, ◌<◌}
use native.Mathlib.Omega.{arith}
use mathlib.Core.Path.{◌≡◌, refl, ◌∙◌}
use mathlib.Core.List.{List, ◌++◌}
use Rattle.pages.specs.Rows.{Line, row_in}
use Rattle.pages.specs.Nct7904d.{card}
use Rattle.pages.specs.Nct7904dBank0 as bank0
use Rattle.pages.specs.Nct7904dBank1 as bank1
use Rattle.pages.specs.Nct7904dBank2 as bank2
use Rattle.pages.specs.Nct7904dBank3 as bank3
use Rattle.pages.specs.Nct7904dBank4 as bank4
use Rattle.pages.proofs.Pages.{rows_behind, rows_before}

-- the lines from a bank on
abbrev from4 : List Line
from4 = bank4.bank

abbrev from3 : List Line
from3 = bank3.bank ++ from4

abbrev from2 : List Line
from2 = bank2.bank ++ from3

abbrev from1 : List Line
from1 = bank1.bank ++ from2

behind0 : (p : ℕ) → 256 ≤ p → row_in card p ≡ row_in from1 p
unfolding card bank0.bank
behind0 p h = rows_behind 256 bank0.bank from1 refl p h

behind1 : (p : ℕ) → 512 ≤ p → row_in card p ≡ row_in from2 p
unfolding bank1.bank
behind1 p h = behind0 p (omega (arith, h)) ∙ rows_behind 512 bank1.bank from2 refl p h

behind2 : (p : ℕ) → 768 ≤ p → row_in card p ≡ row_in from3 p
unfolding bank2.bank
behind2 p h = behind1 p (omega (arith, h)) ∙ rows_behind 768 bank2.bank from3 refl p h

pub in_bank_0 : (p : ℕ) → p < 256 → row_in card p ≡ row_in bank0.bank p
unfolding card bank1.bank bank2.bank bank3.bank bank4.bank
in_bank_0 p l = rows_before 256 bank0.bank from1 refl p l

pub in_bank_1 : (p : ℕ) → 256 ≤ p → p < 512 → row_in card p ≡ row_in bank1.bank p
unfolding bank2.bank bank3.bank bank4.bank
in_bank_1 p h l = behind0 p h ∙ rows_before 512 bank1.bank from2 refl p l

pub in_bank_2 : (p : ℕ) → 512 ≤ p → p < 768 → row_in card p ≡ row_in bank2.bank p
unfolding bank3.bank bank4.bank
in_bank_2 p h l = behind1 p h ∙ rows_before 768 bank2.bank from3 refl p l

pub in_bank_3 : (p : ℕ) → 768 ≤ p → p < 1024 → row_in card p ≡ row_in bank3.bank p
unfolding bank4.bank
in_bank_3 p h l = behind2 p h ∙ rows_before 1024 bank3.bank from4 refl p l

pub in_bank_4 : (p : ℕ) → 1024 ≤ p → row_in card p ≡ row_in bank4.bank p
unfolding bank3.bank
in_bank_4 p h = behind2 p (omega (arith, h)) ∙ rows_behind 1024 bank3.bank from4 refl p h
