-- A chip number names one chip: what a number that names a chip is, and that a number which is not refused names one.
-- Assumes nothing.
use Rattle.std.specs.Prelude.{Option, Some, None}
use Prim.Native.Nat.{ℕ, ◌<◌}
use native.Mathlib.Omega.{arith}
use mathlib.Core.Path.{◌≡◌, refl, ap, ◌∙◌}
use mathlib.Core.Bool.{Bool, true, false, cond, true≢false}
use mathlib.Core.List.{List, [], ◌∷◌}
use borrow.Author.Tests.{eqb-true}
use lib.Dec.{eqb}
use Rattle.pages.specs.declared.Chip.{Chip}
use Rattle.pages.specs.Cards.{chips, chip_among, chip_of, chip_number, when_known, unknown}
use Rattle.pages.proofs.Sound.{sound_sheet}

among : (cs : List Chip) (number : ℕ) (chip : Chip) → chip_among cs number ≡ Some chip → number ≡ chip_number chip
among [] number chip e = let z : ◌≡◌ {A = ℕ} 0 1 = cc in absurd (omega arith)
among (c ∷ cs) number chip e = by_test (eqb number (chip_number c)) refl e (λ f. among cs number chip f)
  where
    by_test : (same : Bool) → eqb number (chip_number c) ≡ same → cond same (Some c) (chip_among cs number) ≡ Some chip
        → (chip_among cs number ≡ Some chip → number ≡ chip_number chip) → number ≡ chip_number chip
    by_test true s e f = let it : c ≡ chip = cc in eqb-true number (chip_number c) s ∙ ap chip_number it
    by_test false s e f = f e

pub chip_number_is : (number : ℕ) (chip : Chip) → chip_of number ≡ Some chip → number ≡ chip_number chip
chip_number_is number chip e = among chips number chip e

-- of one digit
pub chip_digit : (chip : Chip) → chip_number chip < 10
chip_digit chip = (sound_sheet chip).number

-- the chip that a number names
pub record Names-a-chip (number : ℕ) : Type 0 where
  pub chip : Chip
  pub named : chip_of number ≡ Some chip

known : (number : ℕ) (named : Option Chip) → chip_of number ≡ named → when_known named (λ chip. false) true ≡ false → Names-a-chip number
known number (Some chip) e h = record { chip = chip; named = e }
known number None e h = absurd (true≢false h)

-- a number that is not refused names a chip
pub chip_known : (number : ℕ) → unknown number ≡ false → Names-a-chip number
chip_known number h = known number (chip_of number) refl h
