-- "Fixed points for review", as one list under one claim: each card has the rows that the rules paper names, each image its bytes, and each page the
-- bits with effects, the status registers and the channels that the requests name.
-- Assumes nothing.
use Prim.Native.Nat.{ℕ, ◌*◌, ◌^◌}
use mathlib.Core.Path.{refl}
use mathlib.Core.Bool.{Bool, So, true, ◌&&◌}
use mathlib.Core.List.{List, [], ◌∷◌, ◌++◌}
use lib.Dec.{eqb}
use lib.ListN.{length, get_or}
use Rattle.pages.specs.declared.Chip.{Chip}
use Rattle.pages.specs.declared.Chip.TheVariants.{Nct7802y, F75373s, Nct80, Nct7904d, W83793g}
use Rattle.pages.specs.Rows.{Table}
use Rattle.pages.specs.Cards.{sheet_of, size_of, row_of, effects_of, tables_of}
use Rattle.pages.specs.Nct7802y as nct7802y
use Rattle.pages.specs.F75373s as f75373s
use Rattle.pages.specs.Nct80 as nct80
use Rattle.pages.specs.Nct7904d as nct7904d
use Rattle.pages.specs.Nct7904dBank0 as bank0
use Rattle.pages.specs.Nct7904dBank1 as bank1
use Rattle.pages.specs.Nct7904dBank2 as bank2
use Rattle.pages.specs.Nct7904dBank3 as bank3
use Rattle.pages.specs.Nct7904dBank4 as bank4
use Rattle.pages.specs.W83793g as w83793g
use Rattle.pages.specs.W83793gBank0 as page0
use Rattle.pages.specs.W83793gBank1 as page1
use Rattle.pages.specs.W83793gBank2 as page2

-- a number that the paper gives: what the page says, and what the paper says
abbrev pub Point : Type 0
Point = ℕ × ℕ

abbrev writable : Chip → ℕ → ℕ
writable chip address = (row_of chip address).writable

abbrev clears : Chip → ℕ → ℕ
clears chip address = (row_of chip address).clears

abbrev power : Chip → ℕ → ℕ
power chip address = (row_of chip address).power

-- how many registers have effects
abbrev acting : Chip → ℕ
acting chip = length (sheet_of chip).effects

-- how many registers tell a status
abbrev telling : Chip → ℕ
telling chip = length (sheet_of chip).status

-- some registers have a mask
abbrev masks : Chip → ℕ → List ℕ → List Point
masks chip mask [] = []
masks chip mask (a ∷ rest) = (writable chip a, mask) ∷ masks chip mask rest

-- and so have the settings and the speeds of every table
abbrev table_masks : Chip → ℕ → ℕ → List Table → List Point
table_masks chip setting speed [] = []
table_masks chip setting speed (t ∷ ts) = masks chip setting t.settings ++ (masks chip speed t.speeds ++ table_masks chip setting speed ts)

unfoldable pub points : List Point
points =
    -- refusal 8: "a register image is not 256 bytes long"
    (size_of Nct7802y, 256) ∷ (size_of F75373s, 256) ∷ (size_of Nct80, 256)
    -- of chip 4 "An image holds all banks, one after the other": five
    ∷ (size_of Nct7904d, 5 * 256)
    -- of chip 5 "4, 8 and 10 follow document 001": "three banks of registers"
    ∷ (size_of W83793g, 3 * 256)
    -- "the vendor byte in the image is the high one"
    ∷ (power W83793g 0x0D, 0x5C)
    -- "chip 1, 54h and 56h mask 3Fh, power-on 3Fh; 55h and 57h mask 3Fh, power-on 00h"
    ∷ (writable Nct7802y 0x54, 0x3F) ∷ (power Nct7802y 0x54, 0x3F) ∷ (writable Nct7802y 0x56, 0x3F) ∷ (power Nct7802y 0x56, 0x3F)
    ∷ (writable Nct7802y 0x55, 0x3F) ∷ (power Nct7802y 0x55, 0x00) ∷ (writable Nct7802y 0x57, 0x3F) ∷ (power Nct7802y 0x57, 0x00)
    -- "A3h to A8h power-on 37h, 3Ch, 8Ch, AAh, C8h, E6h"
    ∷ (power Nct7802y 0xA3, 0x37) ∷ (power Nct7802y 0xA4, 0x3C) ∷ (power Nct7802y 0xA5, 0x8C)
    ∷ (power Nct7802y 0xA6, 0xAA) ∷ (power Nct7802y 0xA7, 0xC8) ∷ (power Nct7802y 0xA8, 0xE6)
    -- "Chip 2, 34h bits 0 and 1 clear on one; 36h and 92h read only; 91h mask 0Fh; A0h, A1h, A2h power-on 3Ch, 32h, 28h"
    ∷ (clears F75373s 0x34, 0x03)
    ∷ (writable F75373s 0x36, 0x00) ∷ (clears F75373s 0x36, 0x00) ∷ (writable F75373s 0x92, 0x00) ∷ (clears F75373s 0x92, 0x00)
    ∷ (writable F75373s 0x91, 0x0F)
    ∷ (power F75373s 0xA0, 0x3C) ∷ (power F75373s 0xA1, 0x32) ∷ (power F75373s 0xA2, 0x28)
    -- "Chip 3, 00h mask FFh, power-on 08h; 01h read only; 09h mask 07h"
    ∷ (writable Nct80 0x00, 0xFF) ∷ (power Nct80 0x00, 0x08) ∷ (writable Nct80 0x01, 0x00) ∷ (clears Nct80 0x01, 0x00)
    ∷ (writable Nct80 0x09, 0x07)
    -- "bit 7 of NCT80 register 00h", "Bit 5 of the same register"; no other register, and no other chip
    ∷ ((effects_of Nct80 0x00).initialize, 2 ^ 7) ∷ ((effects_of Nct80 0x00).fleeting, 2 ^ 5) ∷ (acting Nct80, 1)
    ∷ (acting Nct7802y, 0) ∷ (acting F75373s, 0) ∷ (acting Nct7904d, 0) ∷ (acting W83793g, 0)
    -- "status registers 01h and 02h of the NCT80", and none of another chip
    ∷ (telling Nct80, 2) ∷ (get_or (sheet_of Nct80).status 0 0, 0x01) ∷ (get_or (sheet_of Nct80).status 1 0, 0x02)
    ∷ (telling Nct7802y, 0) ∷ (telling F75373s, 0) ∷ (telling Nct7904d, 0) ∷ (telling W83793g, 0)
    -- "limits alternate from 2Ah: IN0 high, IN0 low, IN1 high", to 37h; "high bytes only, at 20h to 26h"
    ∷ (nct80.high_limit_at 0, 0x2A) ∷ (nct80.low_limit_at 0, 0x2B) ∷ (nct80.high_limit_at 1, 0x2C) ∷ (nct80.low_limit_at 6, 0x37)
    ∷ (nct80.reading_at 0, 0x20) ∷ (nct80.reading_at 6, 0x26)
    -- "All fan table registers have mask FFh"; of chip 5 temperatures have bits "6-0" and duties bits "5-0", by source document 001
    ∷ table_masks Nct7802y 0xFF 0xFF (tables_of Nct7802y)
    ++ (table_masks F75373s 0xFF 0xFF (tables_of F75373s)
    ++ (table_masks Nct7904d 0xFF 0xFF (tables_of Nct7904d) ++ table_masks W83793g 0x7F 0x3F (tables_of W83793g)))

unfoldable pub agree : List Point → Bool
agree [] = true
agree (p ∷ ps) = eqb p.0 p.1 && agree ps

pub fixed_points : So (agree points)
unfolding agree points sheet_of row_of effects_of nct7802y.card f75373s.card nct80.card nct7904d.card bank0.bank bank1.bank bank2.bank bank3.bank bank4.bank w83793g.card page0.bank page1.bank page2.bank
fixed_points = refl
