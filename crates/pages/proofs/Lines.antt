-- A card has one line for a register, and registers of the image alone: its addresses rise from line to line and stay inside. So no line stands behind
-- another of its address, where nothing would read it: each is the row of its address.
-- Assumes nothing.
use Prim.Native.Nat.{ℕ, zero, suc, ◌≤◌, ◌<◌}
use native.Mathlib.Nat.{le_of_suc-le-suc, not-suc-le-zero}
use native.Mathlib.Omega.{arith}
use mathlib.Core.Path.{◌≡◌, refl, sym, ap, ◌∙◌}
use mathlib.Core.Bool.{false, So, true≢false}
use mathlib.Core.List.{List, [], ◌∷◌}
use borrow.Author.Tests.{leb-true, ltb-true, eq-eqb, ne_eqb}
use lib.Dec.{leb, ltb}
use lib.ListN.{length, get_or}
use Rattle.pages.specs.declared.Chip.{Chip}
use Rattle.pages.specs.Rows.{every, Line, Row, row, row_in, column}
use Rattle.pages.specs.Sheets.{Sheet, power_on_in}
use Rattle.pages.specs.Cards.{sheet_of, card_of, banks_of, row_of, size_of, power_on}
use Rattle.pages.proofs.Columns.{column_at}
use Rattle.pages.proofs.Carried.{carried, unclearing, clears_none}
use Rattle.pages.proofs.Every.{both}
use Rattle.pages.proofs.Sound.{seen_at, rising, Sound, sound_sheet}

-- the line at a place of the card
abbrev pub line_at : List Line → ℕ → Line
line_at lines k = get_or lines k (0x00, 0x00, 0x00, 0x00)

-- what the test says of the first line, and of those behind it
record Rises (size least : ℕ) (l : Line) (ls : List Line) : Type 0 where
  from : least ≤ l.0
  inside : l.0 < size
  rest : So (rising size (suc l.0) ls)

rises : (size least : ℕ) (l : Line) (ls : List Line) → So (rising size least (l ∷ ls)) → Rises size least l ls
rises size least l ls t =
    let first = both (leb least l.0) _ t in
    let second = both (ltb l.0 size) _ first.1 in
    record { from = leb-true least l.0 first.0; inside = ltb-true l.0 size second.0; rest = second.1 }

-- no address is below the least, and none is outside the image
between : (size least : ℕ) (lines : List Line) → So (rising size least lines) → (k : ℕ) → k < length lines
    → (least ≤ (line_at lines k).0) × ((line_at lines k).0 < size)
between size least [] t k h = absurd (not-suc-le-zero h)
between size least (l ∷ ls) t zero h = ((rises size least l ls t).from, (rises size least l ls t).inside)
between size least (l ∷ ls) t (suc k) h =
    let r = rises size least l ls t in
    let later = between size (suc l.0) ls r.rest k (le_of_suc-le-suc h) in
    (omega (arith, r.from, later.0), later.1)

-- behind the image's end there is no register: "both masks 00h and power-on 00h"
pub row_beyond : (size least : ℕ) (lines : List Line) → So (rising size least lines) → (position : ℕ) → size ≤ position → row_in lines position ≡ row 0x00 0x00 0x00
row_beyond size least [] t position h = refl
row_beyond size least (l ∷ ls) t position h =
    let r = rises size least l ls t in
    rw (ne_eqb l.0 position (λ e. omega (arith, e, r.inside))) (row_beyond size (suc l.0) ls r.rest position h)

counted : (size least : ℕ) (lines : List Line) → So (rising size least lines) → (k : ℕ) → k < length lines
    → row_in lines (line_at lines k).0 ≡ row (line_at lines k).1 (line_at lines k).2 (line_at lines k).3
counted size least [] t k h = absurd (not-suc-le-zero h)
counted size least (l ∷ ls) t zero h = rw (eq-eqb l.0 l.0 refl)
counted size least (l ∷ ls) t (suc k) h =
    let r = rises size least l ls t in
    let later = between size (suc l.0) ls r.rest k (le_of_suc-le-suc h) in
    rw (ne_eqb l.0 (line_at ls k).0 (λ e. omega (arith, e, later.0)))
    (counted size (suc l.0) ls r.rest k (le_of_suc-le-suc h))

module _ (sheet : Sheet) (S : Sound sheet) (k : ℕ) (there : k < length sheet.card) where
  sheet_inside : (line_at sheet.card k).0 < sheet.size
  sheet_inside = (between sheet.size 0x00 sheet.card S.lines k there).1

  sheet_counts : row_in sheet.card (line_at sheet.card k).0 ≡ row (line_at sheet.card k).1 (line_at sheet.card k).2 (line_at sheet.card k).3
  sheet_counts = counted sheet.size 0x00 sheet.card S.lines k there

module _ (chip : Chip) (k : ℕ) (there : k < length (card_of chip)) where
  -- a card's line is a register of the image
  pub line_inside : (line_at (card_of chip) k).0 < size_of chip
  line_inside = sheet_inside (sheet_of chip) (sound_sheet chip) k there

  -- and what it says is the row of its address
  pub line_counts : row_of chip (line_at (card_of chip) k).0 ≡ row (line_at (card_of chip) k).1 (line_at (card_of chip) k).2 (line_at (card_of chip) k).3
  unfolding row_of
  line_counts = sheet_counts (sheet_of chip) (sound_sheet chip) k there

-- a position at which no access lands, as the copy of a register seen in every bank, has no register
sheet_dead : (sheet : Sheet) → Sound sheet → (position : ℕ) → seen_at sheet.banks position ≡ false → row_in sheet.card position ≡ row 0x00 0x00 0x00
sheet_dead sheet S position =
    carried (λ a r. seen_at sheet.banks a ≡ false → r ≡ row 0x00 0x00 0x00) (λ l. seen_at sheet.banks l.0) (λ a e. refl)
    (λ l t e. absurd (true≢false (sym t ∙ e))) sheet.card S.places position

pub row_dead : (chip : Chip) (position : ℕ) → seen_at (banks_of chip) position ≡ false → row_of chip position ≡ row 0x00 0x00 0x00
unfolding row_of
row_dead chip position = sheet_dead (sheet_of chip) (sound_sheet chip) position

-- what a chip's columns have at a position is its row; behind the image's end there is none
module _ (chip : Chip) (position : ℕ) where
  pub power_beyond : size_of chip ≤ position → 0x00 ≡ (row_of chip position).power
  unfolding row_of
  power_beyond h = ap (λ (r : Row). r.power) (sym (row_beyond (size_of chip) 0x00 (card_of chip) (sound_sheet chip).lines position h))

  pub writable_beyond : size_of chip ≤ position → 0x00 ≡ (row_of chip position).writable
  unfolding row_of
  writable_beyond h = ap (λ (r : Row). r.writable) (sym (row_beyond (size_of chip) 0x00 (card_of chip) (sound_sheet chip).lines position h))

  pub power_at : position < size_of chip → get_or (power_on chip) position 0 ≡ (row_of chip position).power
  unfolding row_of power_on_in
  power_at h = column_at (size_of chip) (λ p. (row_in (card_of chip) p).power) position h

  pub writable_at : position < size_of chip → get_or (column (size_of chip) (λ p. (row_in (card_of chip) p).writable)) position 0 ≡ (row_of chip position).writable
  unfolding row_of
  writable_at h = column_at (size_of chip) (λ p. (row_in (card_of chip) p).writable) position h

  -- where no line has a bit that clears on one
  pub clearless : So (every (unclearing []) (card_of chip)) → 0x00 ≡ (row_of chip position).clears
  unfolding row_of
  clearless t = sym (clears_none [] (card_of chip) t position refl)
