-- The registers of a fan table are distinct positions that the bus reaches, and a speed's takes the full duty: of any page that passes its test,
-- carried to each register; and what the answers of `table_of` and `ground_of` tell of them.
-- Assumes nothing.
use Rattle.std.specs.Prelude.{Some, None}
use Prim.Native.Nat.{ℕ, zero, suc, ◌+◌, ◌-◌, ◌*◌, ◌/◌, ◌^◌, ◌≤◌, ◌<◌}
use native.Mathlib.Nat.{mod-eq_of_lt}
use native.Mathlib.Omega.{arith}
use mathlib.Core.Path.{◌≡◌, refl, sym, ap, ap₂, ◌∙◌}
use mathlib.Core.Bool.{Bool, true, false, So, cond, true≢false, ◌&&◌}
use mathlib.Core.List.{List, [], ◌∷◌, ◌++◌, map, map-append, append_assoc}
use borrow.Author.Tests.{leb-false, eqb-true, ltb-true, ltb-false, leb-true, le-leb}
use lib.Bits.{bit_and, and_mask}
use lib.Dec.{eqb, leb, ltb}
use lib.ListN.{length, get_or, take, drop, take-append-drop, get_or-eq_default}
use Rattle.pages.specs.declared.Chip.{Chip}
use Rattle.pages.specs.declared.Masks.{Masks}
use Rattle.pages.specs.declared.Register.{Register}
use Rattle.pages.specs.declared.Shape.{Shape}
use Rattle.pages.specs.declared.Shape.TheVariants.{Slope, Steps}
use Rattle.pages.specs.Banks.{no_bank, selects_from}
use Rattle.pages.specs.Rows.{every, Line, Table, positions, row_in, with_masks, register_at, no_register, from, spread_all, stands_at}
use Rattle.pages.specs.Sheets.{longest, most_writes, Sheet, missing, room, has_table_in, table_in, whole_in, loaded, layout, laid_in, register_in, stretch_of, ground_in}
use Rattle.pages.specs.Cards.{sheet_of, card_of, size_of, row_of, tables_of, has_table, table_of, shape_of, layout_of, ground_of}
use Rattle.pages.proofs.Every.{both, of_every, everywhere, map_at, distinct, apart}
use Rattle.pages.proofs.Sound.{stands, reaches, reaches_at, separate, counts, pointed, sized, of_shape, both_or_neither, alike, in_a_row, is_stretch, in_stretches, brief, Sound, sound_sheet}

-- tables have the numbers from 1 on
numbered : (tables : List Table) (number : ℕ) → So (has_table_in tables number) → (1 ≤ number) × (number ≤ length tables)
numbered tables number t =
    let parts = both (leb 1 number) (leb number (length tables)) t in
    (leb-true 1 number parts.0, leb-true number (length tables) parts.1)

neither : (a b : Bool) → (a ≡ true → b ≡ true → ⊥) → (a && b) ≡ false
neither true true h = absurd (h refl refl)
neither true false h = refl
neither false b h = refl

-- and no others
pub no_number : (number count : ℕ) → (1 ≤ number → number ≤ count → ⊥) → (leb 1 number && leb number count) ≡ false
no_number number count h =
    neither (leb 1 number) (leb number count) (λ p q. h (leb-true 1 number p) (leb-true number count q))

-- where there is no table, none is missed
no_table_is : (tables : List Table) (number : ℕ) → has_table_in tables number ≡ false → table_in tables number ≡ missing
no_table_is tables zero e = refl
no_table_is tables (suc n) e = get_or-eq_default tables missing (omega (arith, leb-false (suc n) (length tables) (rw (le-leb 1 (suc n) (omega arith)) at e)))

-- and nothing stands anywhere
pub no_ground : (sheet : Sheet) (number : ℕ) → (1 ≤ number → number ≤ length sheet.tables → ⊥)
    → ground_in sheet.card (table_in sheet.tables number) ≡ ground_in sheet.card missing
no_ground sheet number h =
    ap (ground_in sheet.card) (no_table_is sheet.tables number (no_number number (length sheet.tables) h))

-- the registers at some positions stand there, and what stands in behind the last is at 0
position_among : (card : List Line) (ps : List ℕ) (k : ℕ) → (get_or (map (register_at card) ps) k no_register).position ≡ get_or ps k 0
position_among card [] k = refl
position_among card (p ∷ ps) zero = refl
position_among card (p ∷ ps) (suc k) = position_among card ps k

-- positions that pass as a stretch are its registers, with the masks that the card has
stretch_spread : (card : List Line) (masks : Masks) (first : ℕ) (ps : List ℕ) → So (in_a_row card masks first ps)
    → map (with_masks masks) (from first (length ps)) ≡ map (register_at card) ps
stretch_spread card masks first [] t = refl
stretch_spread card masks first (p ∷ ps) t =
    let place = both (eqb first p) _ t in
    let writable = both (eqb masks.writable (row_in card p).writable) _ place.1 in
    let clears = both (eqb masks.clears (row_in card p).clears) _ writable.1 in
    let at = eqb-true first p place.0 in
    let w = eqb-true masks.writable (row_in card p).writable writable.0 in
    let c = eqb-true masks.clears (row_in card p).clears clears.0 in
    let rest = stretch_spread card masks (suc first) ps clears.1 in
    (λ i. record { position = at i; masks = record { writable = w i; clears = c i } } ∷ rest i)

-- a table that stands in stretches stands there
ground_spread : (card : List Line) (table : Table) → So (in_stretches card table) → spread_all (ground_in card table) ≡ map (register_at card) (positions table)
ground_spread card table t =
    let n = length table.settings - 1 in
    let front = take n table.settings in
    let back = drop n table.settings in
    let settings = both (is_stretch card front) _ t in
    let last = both (is_stretch card back) _ settings.1 in
    let a = stretch_spread card (stretch_of card front).masks (stretch_of card front).first front settings.0 in
    let b = stretch_spread card (stretch_of card back).masks (stretch_of card back).first back last.0 in
    let c = stretch_spread card (stretch_of card table.speeds).masks (stretch_of card table.speeds).first table.speeds last.1 in
    let f = register_at card in
    (λ i. a i ++ (b i ++ c i))
    ∙ sym (append_assoc (map f front) (map f back) (map f table.speeds))
    ∙ ap (λ (l : List Register). l ++ map f table.speeds) (sym (map-append f front back))
    ∙ ap (λ (l : List ℕ). map f l ++ map f table.speeds) (take-append-drop n table.settings)
    ∙ sym (map-append f table.settings table.speeds)

one_shape : (a b : Shape) → So (of_shape a b) → a ≡ b
one_shape (Slope points full) (Slope others other) t =
    let parts = both (eqb points others) (eqb full other) t in
    ap₂ Slope (eqb-true points others parts.0) (eqb-true full other parts.1)
one_shape (Slope points full) Steps t = absurd (true≢false (sym t))
one_shape Steps (Slope others other) t = absurd (true≢false (sym t))
one_shape Steps Steps t = refl

one_answer : (a b : Bool) → So (both_or_neither a b) → a ≡ b
one_answer true true t = refl
one_answer true false t = absurd (true≢false (sym t))
one_answer false true t = absurd (true≢false (sym t))
one_answer false false t = refl

-- a table that is like another is laid out as it
laid_alike : (sheet : Sheet) (other table : Table) → So (alike sheet other table)
    → layout sheet.banks sheet.card table ≡ layout sheet.banks sheet.card other
laid_alike sheet other table t =
    let shape = both (of_shape table.shape other.shape) _ t in
    let settings = both (eqb (length table.settings) (length other.settings)) _ shape.1 in
    let speeds = both (eqb (length table.speeds) (length other.speeds)) _ settings.1 in
    let whole = both (both_or_neither (whole_in sheet.card table) (whole_in sheet.card other)) _ speeds.1 in
    let selects = both (eqb (selects_from sheet.banks no_bank (loaded table)) (selects_from sheet.banks no_bank (loaded other))) _ whole.1 in
    let leading = both (both_or_neither table.leading other.leading) _ selects.1 in
    (λ i. record {
      settings = eqb-true (length table.settings) (length other.settings) settings.0 i;
      speeds = eqb-true (length table.speeds) (length other.speeds) speeds.0 i;
      shape = one_shape table.shape other.shape shape.0 i;
      whole = one_answer (whole_in sheet.card table) (whole_in sheet.card other) whole.0 i;
      selects = eqb-true (selects_from sheet.banks no_bank (loaded table)) (selects_from sheet.banks no_bank (loaded other)) selects.0 i;
      leading = one_answer table.leading other.leading leading.0 i;
      counted = one_answer table.counted other.counted leading.1 i;
    })

-- of any page that passes, and any number: a table that is missing has no register to speak of
module _ (sheet : Sheet) (S : Sound sheet) (number : ℕ) where
  abbrev table : Table
  table = table_in sheet.tables number

  tested_table : So (separate sheet table)
  tested_table = everywhere (separate sheet) (missing ∷ sheet.tables) missing refl S.tables number

  all_stand : So (every (stands sheet) (positions table))
  all_stand = (both (every (stands sheet) (positions table)) _ tested_table).0

  beside : So (distinct (positions table)) × So (leb (length (positions table)) longest && every (reaches_at sheet table.shape) table.speeds)
  beside = both (distinct (positions table)) _ (both (every (stands sheet) (positions table)) _ tested_table).1

  sheet_distinct : (j k : ℕ) → j < length (positions table) → k < length (positions table)
      → get_or (positions table) j 0 ≡ get_or (positions table) k 0 → j ≡ k
  sheet_distinct = apart (positions table) beside.0

  sheet_short : length (positions table) ≤ longest
  sheet_short = leb-true (length (positions table)) longest (both (leb (length (positions table)) longest) _ beside.1).0

  sheet_reaches : (k : ℕ) → k < length table.speeds → So (reaches table.shape (row_in sheet.card (get_or table.speeds k 0)).writable)
  sheet_reaches = of_every (reaches_at sheet table.shape) table.speeds 0 (both (leb (length (positions table)) longest) _ beside.1).1

  sheet_inside : (k : ℕ) → k < length (positions table) → get_or (positions table) k 0 < sheet.size
  sheet_inside k h =
      let position = get_or (positions table) k 0 in
      ltb-true position sheet.size (both (ltb position sheet.size) _ (of_every (stands sheet) (positions table) 0 all_stand k h)).0

  sheet_ground : stands_at (ground_in sheet.card table) ≡ register_in sheet number
  sheet_ground =
      let same = ground_spread sheet.card table (everywhere (in_stretches sheet.card) (missing ∷ sheet.tables) missing refl S.stretches number) in
      (λ i k. get_or (same i) k no_register)

-- of a table that it has
module _ (sheet : Sheet) (S : Sound sheet) (number : ℕ) (has : So (has_table_in sheet.tables number)) where
  of_tables : (test : Table → Bool) → So (every test sheet.tables) → So (test (table_in sheet.tables number))
  of_tables test t = by_number number (numbered sheet.tables number has)
    where
      by_number : (n : ℕ) → (1 ≤ n) × (n ≤ length sheet.tables) → So (test (table_in sheet.tables n))
      by_number zero h = absurd (omega (arith, h.0))
      by_number (suc n) h = of_every test sheet.tables missing t n h.1

  sheet_laid : layout sheet.banks sheet.card (table_in sheet.tables number) ≡ layout sheet.banks sheet.card (table_in sheet.tables 1)
  sheet_laid =
      laid_alike sheet (table_in sheet.tables 1) (table_in sheet.tables number)
      (of_tables (alike sheet (table_in sheet.tables 1)) S.rows)

  sheet_brief : So (brief (layout sheet.banks sheet.card (table_in sheet.tables number)))
  sheet_brief = of_tables (λ table. brief (layout sheet.banks sheet.card table)) S.texts

  sheet_sized : (length (table_in sheet.tables number).settings ≡ (room (table_in sheet.tables number).shape).0)
      × (length (table_in sheet.tables number).speeds ≡ (room (table_in sheet.tables number).shape).1)
  sheet_sized =
      let table = table_in sheet.tables number in
      let parts = both (eqb (length table.settings) (room table.shape).0) _ (of_tables sized S.sizes) in (
        eqb-true (length table.settings) (room table.shape).0 parts.0,
        eqb-true (length table.speeds) (room table.shape).1 parts.1,
      )

module _ (chip : Chip) (number : ℕ) where
  -- no more registers than the longest body has bytes
  pub table_short : length (positions (table_of chip number)) ≤ longest
  table_short = sheet_short (sheet_of chip) (sound_sheet chip) number

  -- a slope has no more points than a plan has room for
  pub table_pointed : So (counts (shape_of chip number))
  table_pointed = everywhere pointed (missing ∷ tables_of chip) missing refl (sound_sheet chip).points number

  -- each is inside the image
  pub table_within : (k : ℕ) → k < length (positions (table_of chip number)) → get_or (positions (table_of chip number)) k 0 < size_of chip
  table_within k h = sheet_inside (sheet_of chip) (sound_sheet chip) number k h

  -- no two registers of a table share a position
  pub table_distinct : (j k : ℕ) → j < length (positions (table_of chip number)) → k < length (positions (table_of chip number))
      → get_or (positions (table_of chip number)) j 0 ≡ get_or (positions (table_of chip number)) k 0 → j ≡ k
  table_distinct = sheet_distinct (sheet_of chip) (sound_sheet chip) number

  -- a speed's register takes the full duty, and nothing above it
  pub table_reaches : (k : ℕ) → k < length (table_of chip number).speeds
      → So (reaches (shape_of chip number) (row_of chip (get_or (table_of chip number).speeds k 0)).writable)
  unfolding row_of
  table_reaches k h = sheet_reaches (sheet_of chip) (sound_sheet chip) number k h

  -- where its registers stand
  pub table_ground : stands_at (ground_of chip number) ≡ register_in (sheet_of chip) number
  table_ground = sheet_ground (sheet_of chip) (sound_sheet chip) number

  -- each register with its own masks ..
  pub register_at_is : (k : ℕ) → k < length (positions (table_of chip number))
      → register_in (sheet_of chip) number k ≡ register_at (card_of chip) (get_or (positions (table_of chip number)) k 0)
  register_at_is = map_at (register_at (card_of chip)) (positions (table_of chip number)) 0 no_register

  -- .. at its position, and 0 where there is none
  pub register_position : (k : ℕ) → (register_in (sheet_of chip) number k).position ≡ get_or (positions (table_of chip number)) k 0
  register_position k = position_among (card_of chip) (positions (table_of chip number)) k

  -- so its bank's number is a byte
  pub register_bank : (k : ℕ) → (register_in (sheet_of chip) number k).position / 256 < 2 ^ 8
  register_bank k = by_place (ltb k (length (positions (table_of chip number)))) refl
    where
      by_place : (there : Bool) → ltb k (length (positions (table_of chip number))) ≡ there → (register_in (sheet_of chip) number k).position / 256 < 2 ^ 8
      by_place true e =
          omega (arith, register_position k, table_within k (ltb-true k (length (positions (table_of chip number))) e), (sound_sheet chip).size)
      by_place false e =
          omega (arith, register_position k, get_or-eq_default (positions (table_of chip number)) 0 (ltb-false k (length (positions (table_of chip number))) e))

  -- all of them stand where the bus reaches them
  pub table_stands : So (every (stands (sheet_of chip)) (positions (table_of chip number)))
  table_stands = all_stand (sheet_of chip) (sound_sheet chip) number

  -- where every register takes every bit
  pub whole_mask : (layout_of chip number).whole ≡ true → (k : ℕ) → k < length (positions (table_of chip number))
      → (row_of chip (get_or (positions (table_of chip number)) k 0)).writable ≡ 0xFF
  unfolding row_of
  whole_mask t k h =
      eqb-true (row_in (card_of chip) (get_or (positions (table_of chip number)) k 0)).writable 0xFF
      (of_every (λ p. eqb (row_in (card_of chip) p).writable 0xFF) (positions (table_of chip number)) 0 t k h)

-- there each byte fits
pub byte_fits : (value : ℕ) → value < 2 ^ 8 → bit_and value 0xFF ≡ value
byte_fits value h = and_mask value 8 ∙ mod-eq_of_lt h

pub table_none : (chip : Chip) (number : ℕ) → has_table chip number ≡ false → table_of chip number ≡ missing
table_none chip number = no_table_is (tables_of chip) number

module _ (chip : Chip) (number : ℕ) (has : So (has_table chip number)) where
  pub table_number : (1 ≤ number) × (number ≤ length (tables_of chip))
  table_number = numbered (tables_of chip) number has

  -- of at most two digits
  pub table_digits : number < 100
  table_digits = omega (arith, table_number.1, (sound_sheet chip).numbers)

  -- a table is as long as its curve
  pub table_sized : (length (table_of chip number).settings ≡ (room (shape_of chip number)).0)
      × (length (table_of chip number).speeds ≡ (room (shape_of chip number)).1)
  table_sized = sheet_sized (sheet_of chip) (sound_sheet chip) number has

  -- its script is short, and so is its text
  pub table_brief : (35 + 6 * ((layout_of chip number).selects + ((layout_of chip number).speeds + ((layout_of chip number).settings + (layout_of chip number).speeds)))
      ≤ 10 * (4 + ((layout_of chip number).settings + (layout_of chip number).speeds)))
      × ((layout_of chip number).selects + ((layout_of chip number).speeds + ((layout_of chip number).settings + (layout_of chip number).speeds)) ≤ most_writes)
  table_brief =
      let l = layout_of chip number in
      let writes = l.selects + (l.speeds + (l.settings + l.speeds)) in
      let bytes = 10 * (4 + (l.settings + l.speeds)) in
      let parts = both (leb (35 + 6 * writes) bytes) (leb writes most_writes) (sheet_brief (sheet_of chip) (sound_sheet chip) number has) in
      (leb-true (35 + 6 * writes) bytes parts.0, leb-true writes most_writes parts.1)

  -- a chip's tables are laid out alike
  pub table_laid : layout_of chip number ≡ layout_of chip 1
  table_laid = sheet_laid (sheet_of chip) (sound_sheet chip) number has

-- what the first table's layout says of every number that the chip has
pub laid_first : (chip : Chip) (number : ℕ) → 1 ≤ number → number ≤ length (tables_of chip)
    → Some (layout_of chip 1) ≡ laid_in (sheet_of chip) number
laid_first chip number h l =
    let has : So (has_table chip number) = rw (le-leb 1 number h, le-leb number (length (tables_of chip)) l) in
    ap Some (sym (table_laid chip number has))
    ∙ ap (λ (b : Bool). cond b (Some (layout_of chip number)) None) (sym has)

-- and what no table says
pub none_laid : (chip : Chip) (number : ℕ) → (1 ≤ number → number ≤ length (tables_of chip) → ⊥) → None ≡ laid_in (sheet_of chip) number
none_laid chip number h =
    ap (λ (has : Bool). cond has (Some (layout_of chip number)) None) (sym (no_number number (length (tables_of chip)) h))
