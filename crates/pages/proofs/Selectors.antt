-- What a page's selector is: the bits that say the bank, and where there are some the bank select register with its masks.
-- Assumes nothing.
use Prim.Native.Nat.{ℕ, ◌≤◌, ◌/◌}
use native.Mathlib.Omega.{arith}
use mathlib.Core.Path.{◌≡◌, refl, sym, ap}
use mathlib.Core.Bool.{Bool, true, false, cond}
use mathlib.Core.List.{List, [], ◌∷◌}
use borrow.Author.Tests.{eqb-true}
use lib.Dec.{eqb}
use lib.ListN.{length}
use Rattle.pages.specs.declared.Selector.{Selector}
use Rattle.pages.specs.Banks.{Banks, ready, selects_from}
use Rattle.pages.specs.Rows.{register_at, no_register}
use Rattle.pages.specs.Sheets.{Sheet, selector_in}

module _ (sheet : Sheet) where
  abbrev told : Bool → Selector
  told one =
      cond one (record { register = no_register; bits = 0x00 })
      (record { register = register_at sheet.card sheet.banks.select; bits = sheet.banks.bits })

  pub selector_bits : (selector_in sheet).bits ≡ sheet.banks.bits
  selector_bits = by_bits (eqb sheet.banks.bits 0) refl
    where
      by_bits : (one : Bool) → eqb sheet.banks.bits 0 ≡ one → (told one).bits ≡ sheet.banks.bits
      by_bits true e = sym (eqb-true sheet.banks.bits 0 e)
      by_bits false e = refl

  pub selector_register : eqb sheet.banks.bits 0 ≡ false → (selector_in sheet).register ≡ register_at sheet.card sheet.banks.select
  selector_register e = ap (λ (one : Bool). (told one).register) e

-- no more selects than registers
pub selects_most : (banks : Banks) (bank : ℕ) (ps : List ℕ) → selects_from banks bank ps ≤ length ps
selects_most banks bank [] = omega arith
selects_most banks bank (p ∷ ps) = omega (arith, one_most (ready banks.bits bank p), selects_most banks (p / 256) ps)
  where
    one_most : (r : Bool) → cond r 0 1 ≤ 1
    one_most true = omega arith
    one_most false = omega arith
