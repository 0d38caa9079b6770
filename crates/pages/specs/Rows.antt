-- "Register cards": what a card's lines say of each position of an image.
-- Assumes nothing.
use Rattle.std.specs.Prelude.{ℕ, zero, suc, ◌+◌, Bool, true, cond, ◌&&◌, List, [], ◌∷◌, ◌++◌, map, eqb, get_or}
use Rattle.pages.specs.declared.Effects.{Effects}
use Rattle.pages.specs.declared.Masks.{Masks}
use Rattle.pages.specs.declared.Ground.{Ground}
use Rattle.pages.specs.declared.Register.{Register}
use Rattle.pages.specs.declared.Required.{Required}
use Rattle.pages.specs.declared.Stretch.{Stretch}
use Rattle.pages.specs.declared.Shape.{Shape}

-- a test that holds of every entry
abbrev pub every : {A : Type 0} → (A → Bool) → List A → Bool
every test [] = true
every test (a ∷ l) = test a && every test l

-- a register of the sheet: its position in the image, its writable bits, its bits that clear on one, its power-on value
abbrev pub Line : Type 0
Line = ℕ × ℕ × ℕ × ℕ

-- a register that identity looks at: its position, the bits that count, and what these hold, one of two values ..
abbrev pub required_one_of : ℕ → ℕ → ℕ → ℕ → Required
required_one_of position bits value other = record { position = position; bits = bits; value = value; other = other }

-- .. or one only
abbrev pub required : ℕ → ℕ → ℕ → Required
required position bits value = required_one_of position bits value value

-- the k-th of some, and no bit of any register behind the last
abbrev pub required_in : List Required → ℕ → Required
required_in identity k = get_or identity k (required 0 0x00 0x00)

-- where a chip holds temperatures: their width, the address of each sensor's high byte, the address of the low byte that the sensors share, which bits
-- of it count, and what the lowest of these is worth there: 2 to the power 16 minus the width where they are left-aligned, 1 where right-aligned
pub record Reading : Type 0 where
  pub width : ℕ
  pub high : List ℕ
  pub low : ℕ
  pub bits : ℕ
  pub unit : ℕ

-- what a card says of a position
pub record Row : Type 0 where
  pub writable : ℕ
  pub clears : ℕ
  pub power : ℕ

abbrev pub row : ℕ → ℕ → ℕ → Row
row writable clears power = record { writable = writable; clears = clears; power = power }

-- what a write goes by
abbrev pub masks_in : Row → Masks
masks_in r = record { writable = r.writable; clears = r.clears }

-- a register that only stores has no bits with effects ..
abbrev pub no_effects : Effects
no_effects = record { initialize = 0x00; fleeting = 0x00 }

-- .. and that is every one that a page does not list
abbrev pub effects_in : List (ℕ × Effects) → ℕ → Effects
effects_in [] position = no_effects
effects_in (l ∷ ls) position = cond (eqb l.0 position) l.1 (effects_in ls position)

-- a fan table: where its settings stand (temperatures, and critical where there is one) and where its speeds stand, in register order, and what its
-- curve is
pub record Table : Type 0 where
  pub settings : List ℕ
  pub speeds : List ℕ
  pub shape : Shape
  -- the last setting, critical, leads in a record, where its register stands before the others
  pub leading : Bool
  -- a record has the mark 43h 51h, and carries the number of points
  pub counted : Bool

-- all registers of a table, in register order
abbrev pub positions : Table → List ℕ
positions table = table.settings ++ table.speeds

-- "Addresses that a sheet doesn't list or reserves have both masks 00h and power-on 00h"
abbrev pub row_in : List Line → ℕ → Row
row_in [] position = row 0x00 0x00 0x00
row_in (l ∷ ls) position = cond (eqb l.0 position) (row l.1 l.2 l.3) (row_in ls position)

-- a register of a fan table: where it stands, and what a write does there
abbrev pub with_masks : Masks → ℕ → Register
with_masks masks position = record { position = position; masks = masks }

abbrev pub register_at : List Line → ℕ → Register
register_at card position = with_masks (masks_in (row_in card position)) position

-- behind the last
abbrev pub no_register : Register
no_register = with_masks (masks_in (row 0x00 0x00 0x00)) 0

-- a number for each of n positions, from the first one on
abbrev pub each_from : (ℕ → ℕ) → ℕ → ℕ → List ℕ
each_from f first zero = []
each_from f first (suc n) = f first ∷ each_from f (suc first) n

-- n positions in a row
abbrev pub from : ℕ → ℕ → List ℕ
from first n = each_from (λ position. position) first n

-- some bits may be written, and none clears on one
abbrev pub mask_of : ℕ → Masks
mask_of bits = record { writable = bits; clears = 0x00 }

-- every bit may be written, "mask FFh"
abbrev pub every_bit : Masks
every_bit = mask_of 0xFF

-- registers in a row that have the same masks, and each of them
abbrev pub stretch : ℕ → ℕ → Masks → Stretch
stretch first count masks = record { first = first; count = count; masks = masks }

abbrev pub spread : Stretch → List Register
spread r = map (with_masks r.masks) (from r.first r.count)

-- where a table stands whose registers are all in a row: some settings and one more, then the speeds
abbrev pub in_one_row : ℕ → ℕ → ℕ → Masks → Ground
in_one_row first settings speeds masks =
    record { settings = stretch first settings masks; last = stretch (first + settings) 1 masks; speeds = stretch (first + settings + 1) speeds masks }

-- each register of the ground of a fan table, settings first
abbrev pub spread_all : Ground → List Register
spread_all stretches = spread stretches.settings ++ (spread stretches.last ++ spread stretches.speeds)

abbrev pub stands_at : Ground → ℕ → Register
stands_at stretches k = get_or (spread_all stretches) k no_register

-- a number for each of n positions, as "each of the 256 addresses"
unfoldable pub column : ℕ → (ℕ → ℕ) → List ℕ
column n f = each_from f 0 n
