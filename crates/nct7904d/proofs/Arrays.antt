-- A bank's column of the card, any of them: its entry is that of the register's row.
-- Assumes nothing.
use Prim.Native.Nat.{ℕ, ◌+◌, ◌*◌, ◌≤◌, ◌<◌}
use native.Mathlib.Omega.{arith}
use mathlib.Core.Path.{◌≡◌, sym, ap, ◌∙◌}
use mathlib.Core.List.{List}
use lib.ListN.{get_or}
use Rattle.pages.specs.declared.Chip.TheVariants.{Nct7904d}
use Rattle.pages.specs.Rows.{Line, Row, row, row_in, each_from}
use Rattle.pages.specs.Cards.{sheet_of}
use Rattle.pages.specs.Nct7904d.{card}
use Rattle.pages.specs.Nct7904dBank0 as bank0
use Rattle.pages.specs.Nct7904dBank1 as bank1
use Rattle.pages.specs.Nct7904dBank2 as bank2
use Rattle.pages.specs.Nct7904dBank3 as bank3
use Rattle.pages.specs.Nct7904dBank4 as bank4
use Rattle.pages.proofs.Columns.{run_at}
use Rattle.pages.proofs.BankRows.{in_bank_0, in_bank_1, in_bank_2, in_bank_3, in_bank_4}
use Rattle.pages.proofs.Lines.{row_beyond}
use Rattle.pages.proofs.Sound.{sound_sheet}

-- the column of a bank's lines, which begin at a position
abbrev pub column_of : (Row → ℕ) → List Line → ℕ → List ℕ
column_of f lines first = each_from (λ position. f (row_in lines position)) first 256

-- what the card has at an address of a bank
abbrev pub card_at : (Row → ℕ) → ℕ → ℕ → ℕ
card_at f bank address = f (row_in card (bank * 256 + address))

entry : (f : Row → ℕ) (lines : List Line) (first bank address : ℕ) → address < 256 → first ≡ bank * 256
    → row_in card (first + address) ≡ row_in lines (first + address) → get_or (column_of f lines first) address 0 ≡ card_at f bank address
entry f lines first bank address h e same =
    run_at (λ position. f (row_in lines position)) first 256 address h ∙ ap f (sym same) ∙ ap (λ (p : ℕ). f (row_in card (p + address))) e

pub at_0 : (f : Row → ℕ) (bank address : ℕ) → bank ≡ 0 → address < 256 → get_or (column_of f bank0.bank 0) address 0 ≡ card_at f bank address
at_0 f bank address e h = entry f bank0.bank 0 bank address h (omega (arith, e)) (in_bank_0 (0 + address) (omega (arith, h)))

pub at_1 : (f : Row → ℕ) (bank address : ℕ) → bank ≡ 1 → address < 256 → get_or (column_of f bank1.bank 256) address 0 ≡ card_at f bank address
at_1 f bank address e h = entry f bank1.bank 256 bank address h (omega (arith, e)) (in_bank_1 (256 + address) (omega arith) (omega (arith, h)))

pub at_2 : (f : Row → ℕ) (bank address : ℕ) → bank ≡ 2 → address < 256 → get_or (column_of f bank2.bank 512) address 0 ≡ card_at f bank address
at_2 f bank address e h = entry f bank2.bank 512 bank address h (omega (arith, e)) (in_bank_2 (512 + address) (omega arith) (omega (arith, h)))

pub at_3 : (f : Row → ℕ) (bank address : ℕ) → bank ≡ 3 → address < 256 → get_or (column_of f bank3.bank 768) address 0 ≡ card_at f bank address
at_3 f bank address e h = entry f bank3.bank 768 bank address h (omega (arith, e)) (in_bank_3 (768 + address) (omega arith) (omega (arith, h)))

pub at_4 : (f : Row → ℕ) (bank address : ℕ) → bank ≡ 4 → address < 256 → get_or (column_of f bank4.bank 1024) address 0 ≡ card_at f bank address
at_4 f bank address e h = entry f bank4.bank 1024 bank address h (omega (arith, e)) (in_bank_4 (1024 + address) (omega arith))

-- behind the last bank there is no line
pub at_none : (f : Row → ℕ) (bank address : ℕ) → 5 ≤ bank → f (row 0x00 0x00 0x00) ≡ card_at f bank address
unfolding sheet_of
at_none f bank address h = ap f (sym (row_beyond 1280 0x00 card (sound_sheet Nct7904d).lines (bank * 256 + address) (omega (arith, h))))
