-- "In each row the two masks share no bit", and both are bytes, as is the power-on value: of any page that passes its test, carried from its lines to the
-- row of every address.
-- Assumes nothing.
use Prim.Native.Nat.{ℕ, ◌^◌, ◌<◌}
use native.Mathlib.Nat.{lt_of_le_of_lt}
use native.Mathlib.Omega.{arith}
use mathlib.Core.Path.{◌≡◌, refl, subst}
use borrow.Author.Tests.{eqb-true, ltb-true}
use lib.Dec.{ltb}
use lib.Bits.{bit_and, and_le_r}
use Rattle.pages.specs.declared.Chip.{Chip}
use Rattle.pages.specs.Rows.{Row, row_in}
use Rattle.pages.specs.Sheets.{Sheet}
use Rattle.pages.specs.Cards.{sheet_of, row_of}
use Rattle.pages.proofs.Every.{both}
use Rattle.pages.proofs.Carried.{carried}
use Rattle.pages.proofs.Sound.{disjoint, narrow, Sound, sound_sheet}

abbrev Apart : Row → Type 0
Apart r = bit_and r.writable r.clears ≡ 0

abbrev pub Narrow : Row → Type 0
Narrow r = (r.writable < 2 ^ 8) × (r.clears < 2 ^ 8) × (r.power < 2 ^ 8)

module _ (sheet : Sheet) (S : Sound sheet) (address : ℕ) where
  sheet_apart : Apart (row_in sheet.card address)
  sheet_apart =
      carried (λ a r. Apart r) disjoint (λ a. refl) (λ l t. eqb-true (bit_and l.1 l.2) 0 t) sheet.card S.masks address

  sheet_narrow : Narrow (row_in sheet.card address)
  sheet_narrow =
      carried (λ a r. Narrow r) narrow (λ a. (omega arith, omega arith, omega arith))
      (λ l t.
      let one = both (ltb l.1 (2 ^ 8)) _ t in
      let two = both (ltb l.2 (2 ^ 8)) _ one.1 in
      (ltb-true l.1 (2 ^ 8) one.0, ltb-true l.2 (2 ^ 8) two.0, ltb-true l.3 (2 ^ 8) two.1))
      sheet.card S.bytes address

module _ (chip : Chip) (address : ℕ) where
  pub masks_apart : bit_and (row_of chip address).writable (row_of chip address).clears ≡ 0
  unfolding row_of
  masks_apart = sheet_apart (sheet_of chip) (sound_sheet chip) address

  pub row_narrow : Narrow (row_of chip address)
  unfolding row_of
  row_narrow = sheet_narrow (sheet_of chip) (sound_sheet chip) address

  -- so a value that fits is a byte
  pub fitting_byte : (value : ℕ) → bit_and value (row_of chip address).writable ≡ value → value < 2 ^ 8
  fitting_byte value fits =
      subst (λ (v : ℕ). v < 2 ^ 8) fits (lt_of_le_of_lt (and_le_r value (row_of chip address).writable) row_narrow.0)
