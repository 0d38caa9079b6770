-- What every page must pass, as one test that is computed over it, what this says fact by fact, and that each chip's page passes.
-- Assumes nothing.
use Prim.Native.Nat.{ℕ, suc, ◌+◌, ◌-◌, ◌*◌, ◌/◌, ◌%◌, ◌^◌, ◌≤◌, ◌<◌}
use native.Mathlib.Omega.{arith}
use mathlib.Core.Path.{refl}
use mathlib.Core.Bool.{Bool, true, false, So, cond, not, ◌&&◌}
use mathlib.Core.List.{List, [], ◌∷◌, ◌++◌, map}
use borrow.Author.Tests.{leb-true, ltb-true}
use lib.Bits.{bit_and}
use lib.Dec.{eqb, leb, ltb}
use lib.ListN.{length, get_or, take, drop}
use Rattle.pages.specs.declared.Chip.{Chip}
use Rattle.pages.specs.declared.Chip.TheVariants.{Nct7802y, F75373s, Nct80, Nct7904d, W83793g}
use Rattle.pages.specs.declared.Effects.{Effects}
use Rattle.pages.specs.declared.Layout.{Layout}
use Rattle.pages.specs.declared.Masks.{Masks}
use Rattle.pages.specs.declared.Required.{Required}
use Rattle.pages.specs.declared.Shape.{Shape}
use Rattle.pages.specs.declared.Shape.TheVariants.{Slope, Steps}
use Rattle.pages.specs.Banks.{Banks, shared_in, stands_in, aside_in, no_bank, selects_from}
use Rattle.pages.specs.Rows.{every, Line, Row, Table, positions, row_in, column}
use Rattle.pages.specs.Sheets.{greatest, most_points, longest, most_writes, Sheet, power_on_in, table_in, room, whole_in, loaded, layout, stretch_of}
use Rattle.pages.specs.Cards.{sheet_of}
use Rattle.pages.specs.Identity.{all_hold}
use Rattle.pages.specs.Nct7802y as nct7802y
use Rattle.pages.specs.F75373s as f75373s
use Rattle.pages.specs.Nct80 as nct80
use Rattle.pages.specs.Nct7904d as nct7904d
use Rattle.pages.specs.Nct7904dBank0 as bank0
use Rattle.pages.specs.Nct7904dBank1 as bank1
use Rattle.pages.specs.Nct7904dBank2 as bank2
use Rattle.pages.specs.Nct7904dBank3 as bank3
use Rattle.pages.specs.Nct7904dBank4 as bank4
use Rattle.pages.specs.W83793g as w83793g
use Rattle.pages.specs.W83793gBank0 as page0
use Rattle.pages.specs.W83793gBank1 as page1
use Rattle.pages.specs.W83793gBank2 as page2
use Rattle.pages.proofs.Every.{of_every, distinct}

-- addresses rise from a least one on, and are those of an image
abbrev pub rising : ℕ → ℕ → List Line → Bool
rising size least [] = true
rising size least (l ∷ ls) = leb least l.0 && (ltb l.0 size && rising size (suc l.0) ls)

-- "In each row the two masks share no bit"
abbrev pub disjoint : Line → Bool
disjoint l = eqb (bit_and l.1 l.2) 0

-- and each is a byte, as is the power-on value
abbrev pub narrow : Line → Bool
narrow l = ltb l.1 (2 ^ 8) && (ltb l.2 (2 ^ 8) && ltb l.3 (2 ^ 8))

-- none of these bits of a register may change, and they are bits of a byte
abbrev pub fixed : Row → ℕ → Bool
fixed row bits = ltb bits (2 ^ 8) && (eqb (bit_and row.writable bits) 0 && eqb (bit_and row.clears bits) 0)

-- identity looks inside the image, and at bits that no write changes
abbrev pub lasting : Sheet → Required → Bool
lasting sheet r = ltb r.position sheet.size && fixed (row_in sheet.card r.position) r.bits

-- a position is that of its address in its bank: a register seen in every bank has no second one
abbrev pub seen_at : Banks → ℕ → Bool
seen_at banks position = eqb (stands_in banks (position / 256) (position % 256)) position

-- the positions that the bus reaches: there, and by a bank that the bank's bits can say
abbrev pub reached : Banks → ℕ → Bool
reached banks position = seen_at banks position && eqb (bit_and (position / 256) banks.bits) (position / 256)

-- a position is none of some
abbrev pub none_of : List ℕ → ℕ → Bool
none_of others position = every (λ q. not (eqb q position)) others

-- a register that only stores
abbrev pub quiet : Sheet → ℕ → Bool
quiet sheet position = none_of (map (λ l. l.0) sheet.effects) position

-- a fan table's register is inside the image, where the bus reaches it, selects no bank, and only stores
abbrev pub stands : Sheet → ℕ → Bool
stands sheet position =
    ltb position sheet.size
    && (reached sheet.banks position && (none_of (aside_in sheet.banks) position && quiet sheet position))

-- a register is inside the image, at an address that is seen in every bank, and takes every one of some bits
abbrev pub taking : Sheet → ℕ → ℕ → Bool
taking sheet bits position =
    ltb position sheet.size
    && (ltb position (2 ^ 8)
    && (shared_in sheet.banks position && eqb (bit_and (row_in sheet.card position).writable bits) bits))

-- the bank select register takes those that say the bank, and only stores
abbrev pub selecting : Sheet → ℕ → Bool
selecting sheet position = taking sheet sheet.banks.bits position && quiet sheet position

-- a register takes every one of some bits, and they are 0 at power-on
abbrev pub resting : Sheet → ℕ → ℕ → Bool
resting sheet bits position = taking sheet bits position && eqb (bit_and (row_in sheet.card position).power bits) 0

-- of such bits are those that have effects
abbrev pub effective : Sheet → ℕ × Effects → Bool
effective sheet l = resting sheet l.1.initialize l.0 && resting sheet l.1.fleeting l.0

-- a status register can't be written
abbrev pub reporting : Sheet → ℕ → Bool
reporting sheet position = eqb (row_in sheet.card position).writable 0 && eqb (row_in sheet.card position).clears 0

-- what a speed's register takes: of a slope the full duty, and nothing above it
abbrev pub reaches : Shape → ℕ → Bool
reaches (Slope points full) mask = eqb mask full
reaches Steps mask = true

abbrev pub reaches_at : Sheet → Shape → ℕ → Bool
reaches_at sheet shape position = reaches shape (row_in sheet.card position).writable

-- no two registers of a table in one place, and no more of them than the longest body has bytes
abbrev pub separate : Sheet → Table → Bool
separate sheet table =
    every (stands sheet) (positions table)
    && (distinct (positions table) && (leb (length (positions table)) longest && every (reaches_at sheet table.shape) table.speeds))

-- "a point count from 2 to 8"
abbrev pub counts : Shape → Bool
counts (Slope points full) = leb 2 points && leb points most_points
counts Steps = true

abbrev pub pointed : Table → Bool
pointed table = counts table.shape

-- a table is as long as its curve
abbrev pub sized : Table → Bool
sized table = eqb (length table.settings) (room table.shape).0 && eqb (length table.speeds) (room table.shape).1

-- one kind of curve
abbrev pub of_shape : Shape → Shape → Bool
of_shape (Slope points full) (Slope others other) = eqb points others && eqb full other
of_shape (Slope points full) Steps = false
of_shape Steps (Slope others other) = false
of_shape Steps Steps = true

abbrev pub both_or_neither : Bool → Bool → Bool
both_or_neither true other = other
both_or_neither false other = not other

-- a table is laid out as another
abbrev pub alike : Sheet → Table → Table → Bool
alike sheet other table =
    of_shape table.shape other.shape
    && (eqb (length table.settings) (length other.settings)
    && (eqb (length table.speeds) (length other.speeds)
    && (both_or_neither (whole_in sheet.card table) (whole_in sheet.card other)
    && (eqb (selects_from sheet.banks no_bank (loaded table)) (selects_from sheet.banks no_bank (loaded other))
    && (both_or_neither table.leading other.leading && both_or_neither table.counted other.counted)))))

-- the registers of a table as its record has them
abbrev pub recorded : Table → List ℕ
recorded table =
    cond table.leading (get_or table.settings (length table.settings - 1) 0 ∷ (take (length table.settings - 1) table.settings ++ table.speeds))
    (positions table)

-- each stands behind the one before
abbrev pub behind : ℕ → List ℕ → Bool
behind least [] = true
behind least (p ∷ ps) = leb least p && behind (suc p) ps

-- "the record's body being that table in register order"; where the record carries the number of points, "that many temperatures, critical, and that
-- many duties", wherever these stand
abbrev pub ordered : Table → Bool
ordered table = cond table.counted (not table.leading) (behind 0 (recorded table))

-- some positions are in a row from the first on, and their registers have these masks
abbrev pub in_a_row : List Line → Masks → ℕ → List ℕ → Bool
in_a_row card masks first [] = true
in_a_row card masks first (p ∷ ps) =
    eqb first p
    && (eqb masks.writable (row_in card p).writable && (eqb masks.clears (row_in card p).clears && in_a_row card masks (suc first) ps))

abbrev pub is_stretch : List Line → List ℕ → Bool
is_stretch card ps = in_a_row card (stretch_of card ps).masks (stretch_of card ps).first ps

-- a table stands in stretches: its settings but for the last, the last, its speeds
abbrev pub in_stretches : List Line → Table → Bool
in_stretches card table =
    is_stretch card (take (length table.settings - 1) table.settings)
    && (is_stretch card (drop (length table.settings - 1) table.settings) && is_stretch card table.speeds)

-- what a text has room for: the lines of a plan, a header of at most 35 bytes and 6 for each write, are no more than ten for each byte of its record,
-- whose header has 4, a point count not counted; and no script has more writes than the text's buffer
abbrev pub brief : Layout → Bool
brief l =
    leb (35 + 6 * (l.selects + (l.speeds + (l.settings + l.speeds)))) (10 * (4 + (l.settings + l.speeds)))
    && leb (l.selects + (l.speeds + (l.settings + l.speeds))) most_writes

abbrev tests : Sheet → List Bool
tests sheet =
    leb sheet.size greatest
    ∷ rising sheet.size 0x00 sheet.card
    ∷ every disjoint sheet.card
    ∷ every narrow sheet.card
    ∷ every (lasting sheet) sheet.identity
    ∷ all_hold (power_on_in sheet) sheet.identity
    ∷ every (separate sheet) sheet.tables
    ∷ every sized sheet.tables
    ∷ every (alike sheet (table_in sheet.tables 1)) sheet.tables
    ∷ ltb sheet.number 10
    ∷ ltb (length sheet.tables) 100
    ∷ every (λ l. seen_at sheet.banks l.0) sheet.card
    ∷ every (selecting sheet) (aside_in sheet.banks)
    ∷ ltb sheet.banks.bits (2 ^ 8)
    ∷ every (λ table. brief (layout sheet.banks sheet.card table)) sheet.tables
    ∷ every ordered sheet.tables
    ∷ every (in_stretches sheet.card) sheet.tables
    ∷ every pointed sheet.tables
    ∷ every (effective sheet) sheet.effects
    ∷ every (reporting sheet) sheet.status
    ∷ []

unfoldable pub sound : Sheet → Bool
sound sheet = every (λ test. test) (tests sheet)

pub record Sound (sheet : Sheet) : Type 0 where
  -- no image is longer than the one that a reset fills
  pub size : sheet.size ≤ greatest
  pub lines : So (rising sheet.size 0x00 sheet.card)
  pub masks : So (every disjoint sheet.card)
  pub bytes : So (every narrow sheet.card)
  pub identity : So (every (lasting sheet) sheet.identity)
  -- a reset image is the chip's
  pub starts : So (all_hold (power_on_in sheet) sheet.identity)
  pub tables : So (every (separate sheet) sheet.tables)
  pub sizes : So (every sized sheet.tables)
  -- what each chip's module counts on, which has one layout for its tables
  pub rows : So (every (alike sheet (table_in sheet.tables 1)) sheet.tables)
  -- what a line of a text has room for: one digit of the chip's number, and two of the table's
  pub number : sheet.number < 10
  pub numbers : length sheet.tables < 100
  -- no line stands where no access lands
  pub places : So (every (λ l. seen_at sheet.banks l.0) sheet.card)
  pub selects : So (every (selecting sheet) (aside_in sheet.banks))
  pub bits : sheet.banks.bits < 2 ^ 8
  pub texts : So (every (λ table. brief (layout sheet.banks sheet.card table)) sheet.tables)
  -- a record is in register order, or in the order of the mark 43h 51h
  pub records : So (every ordered sheet.tables)
  -- what the ground of a table can say
  pub stretches : So (every (in_stretches sheet.card) sheet.tables)
  -- a plan has room for the points of every table
  pub points : So (every pointed sheet.tables)
  pub effects : So (every (effective sheet) sheet.effects)
  pub status : So (every (reporting sheet) sheet.status)

module _ (sheet : Sheet) (t : So (sound sheet)) where
  part : (k : ℕ) → k < 20 → So (get_or (tests sheet) k true)
  unfolding sound
  part k h = of_every (λ test. test) (tests sheet) true t k h

  pub passes : Sound sheet
  passes =
      record {
        size = leb-true sheet.size greatest (part 0 (omega arith));
        lines = part 1 (omega arith);
        masks = part 2 (omega arith);
        bytes = part 3 (omega arith);
        identity = part 4 (omega arith);
        starts = part 5 (omega arith);
        tables = part 6 (omega arith);
        sizes = part 7 (omega arith);
        rows = part 8 (omega arith);
        number = ltb-true sheet.number 10 (part 9 (omega arith));
        numbers = ltb-true (length sheet.tables) 100 (part 10 (omega arith));
        places = part 11 (omega arith);
        selects = part 12 (omega arith);
        bits = ltb-true sheet.banks.bits (2 ^ 8) (part 13 (omega arith));
        texts = part 14 (omega arith);
        records = part 15 (omega arith);
        stretches = part 16 (omega arith);
        points = part 17 (omega arith);
        effects = part 18 (omega arith);
        status = part 19 (omega arith);
      }

-- the only law that goes by the chip
tested : (chip : Chip) → So (sound (sheet_of chip))
unfolding sheet_of sound power_on_in column nct7802y.card f75373s.card nct80.card nct7904d.card bank0.bank bank1.bank bank2.bank bank3.bank bank4.bank w83793g.card page0.bank page1.bank page2.bank
tested Nct7802y = refl
tested F75373s = refl
tested Nct80 = refl
tested Nct7904d = refl
tested W83793g = refl

pub sound_sheet : (chip : Chip) → Sound (sheet_of chip)
sound_sheet chip = passes (sheet_of chip) (tested chip)
