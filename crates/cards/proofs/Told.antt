-- What a promise of `cards` says in the rules paper's numbers: by whether the number names a chip, and by whether the chip has the table.
-- Assumes nothing.
use Rattle.std.specs.Prelude.{Option, Some, None, Result, Ok, Err}
use Prim.Native.Nat.{ℕ}
use native.Mathlib.Omega.{arith}
use mathlib.Core.Path.{◌≡◌, refl, sym, ap, ◌∙◌}
use mathlib.Core.Bool.{Bool, true, false, cond}
use mathlib.Core.List.{[]}
use Rattle.refusal.specs.declared.Refusal.{Refusal}
use Rattle.refusal.specs.declared.Refusal.TheVariants.{NoSuchChip}
use Rattle.pages.specs.declared.Chip.{Chip}
use Rattle.pages.specs.declared.Layout.{Layout}
use Rattle.pages.specs.Banks.{one_bank}
use Rattle.pages.specs.Sheets.{missing, layout}
use Rattle.pages.specs.Cards.{chip_of, when_known, unknown, has_table, layout_of, tells_named, tells_fan}
use Rattle.pages.specs.Promises.{Names, Lays}
use Rattle.pages.proofs.Numbers.{chip_number_is}

-- 0 and the number itself where it names a chip, else 3 and 0
pub names_told : {number : ℕ} {r : Result Chip Refusal} → Names number r → tells_named r ≡ cond (unknown number) (3, 0) (0, number)
names_told {number} p = ap tells_named p.answer ∙ by_name (chip_of number) refl
  where
    by_name : (some : Option Chip) → chip_of number ≡ some
        → tells_named (when_known some Ok (Err NoSuchChip)) ≡ cond (when_known some (λ chip. false) true) (3, 0) (0, number)
    by_name (Some chip) e = ap (λ (n : ℕ). (0, n)) (sym (chip_number_is number chip e))
    by_name None e = refl

-- 0 and the layout of the table where the chip has it, else 4 and that of none
pub lays_told : {chip : Chip} {number : ℕ} {r : Option Layout} → Lays chip number r
    → tells_fan r ≡ cond (has_table chip number) (0, layout_of chip number) (4, layout one_bank [] missing)
lays_told {chip} {number} p = ap tells_fan p.answer ∙ by_table (has_table chip number) (layout_of chip number)
  where
    by_table : (has : Bool) (facts : Layout) → tells_fan (cond has (Some facts) None) ≡ cond has (0, facts) (4, layout one_bank [] missing)
    by_table true facts = refl
    by_table false facts = refl

-- what an answer tells of the table
fan_laid : (has : Bool) (a b : Layout) → cond has (Some a) None ≡ Some b → (has ≡ true) × (b ≡ a)
fan_laid true a b e = (refl, cc)
fan_laid false a b e = let z : ◌≡◌ {A = ℕ} 0 1 = cc in absurd (omega arith)

no_fan : (has : Bool) (a : Layout) → cond has (Some a) None ≡ None → has ≡ false
no_fan true a e = let z : ◌≡◌ {A = ℕ} 0 1 = cc in absurd (omega arith)
no_fan false a e = refl

pub table_found : {chip : Chip} {number : ℕ} {fan : Option Layout} (facts : Layout) → Lays chip number fan → fan ≡ Some facts
    → (has_table chip number ≡ true) × (facts ≡ layout_of chip number)
table_found {chip} {number} facts p e = fan_laid (has_table chip number) (layout_of chip number) facts (sym p.answer ∙ e)

pub table_missed : {chip : Chip} {number : ℕ} {fan : Option Layout} → Lays chip number fan → fan ≡ None → has_table chip number ≡ false
table_missed {chip} {number} p e = no_fan (has_table chip number) (layout_of chip number) (sym p.answer ∙ e)
