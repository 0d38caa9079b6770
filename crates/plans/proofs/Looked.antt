-- What a look-up says that found a chip, or a fan table of it.
-- Assumes nothing.
use Rattle.std.specs.Prelude.{Option, Some, None, Ok, Err}
use Rattle.std.specs.Option.{ok_or}
use Prim.Native.Nat.{ℕ}
use native.Mathlib.Omega.{arith}
use mathlib.Core.Path.{◌≡◌, refl, ap, ◌∙◌}
use mathlib.Core.Bool.{Bool, true, false, cond}
use Rattle.refusal.specs.declared.Refusal.TheVariants.{NoSuchChip, NoSuchTable}
use Rattle.pages.specs.declared.Chip.{Chip}
use Rattle.pages.specs.declared.Layout.{Layout}
use Rattle.pages.specs.Cards.{chip_of, when_known, has_table, layout_of}
use Rattle.pages.specs.Promises.{Names, Lays}

pub chip_found : {number : ℕ} {chip : Chip} → Names number (Ok chip) → chip_of number ≡ Some chip
chip_found {number} {chip} p = by_name (chip_of number) p.answer
  where
    by_name : (found : Option Chip) → Ok chip ≡ when_known found Ok (Err NoSuchChip) → found ≡ Some chip
    by_name (Some c) q = cc
    by_name None q = let z : ◌≡◌ {A = ℕ} 0 1 = cc in absurd (omega arith)

pub table_found : {chip : Chip} {number : ℕ} {fan : Option Layout} {layout : Layout} → Lays chip number fan → Ok layout ≡ ok_or fan NoSuchTable
    → (has_table chip number ≡ true) × (layout ≡ layout_of chip number)
table_found {chip} {number} {fan} {layout} p e =
    by_table (has_table chip number) (e ∙ ap (λ (f : Option Layout). ok_or f NoSuchTable) p.answer)
  where
    by_table : (has : Bool) → Ok layout ≡ ok_or (cond has (Some (layout_of chip number)) None) NoSuchTable → (has ≡ true) × (layout ≡ layout_of chip number)
    by_table true q = (refl, cc)
    by_table false q = let z : ◌≡◌ {A = ℕ} 0 1 = cc in absurd (omega arith)
