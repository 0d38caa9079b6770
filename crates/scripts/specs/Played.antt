-- Byte writes made on an image one after the other, by position and on the bus; and stops: writes cut after some number of them and begun again.
-- Assumes nothing.
use Rattle.std.specs.Prelude.{ℕ, List, [], ◌∷◌, ◌++◌, take}
use Rattle.pages.specs.declared.Chip.{Chip}
use Rattle.pages.specs.Banks.{aside_in}
use Rattle.pages.specs.Rows.{positions}
use Rattle.pages.specs.Cards.{banks_of, table_of}
use Rattle.images.specs.Bytes.{placed, written}
use Rattle.scripts.specs.Scripts.{Pair}

-- an image after some writes by position
abbrev pub laid : Chip → List Pair → List ℕ → List ℕ
laid chip [] image = image
laid chip (w ∷ ws) image = laid chip ws (placed chip w.0 w.1 image)

-- an image after some writes on the bus
abbrev pub played : Chip → List Pair → List ℕ → List ℕ
played chip [] image = image
played chip (w ∷ ws) image = played chip ws (written chip w.0 w.1 image)

-- writes of one list, each time cut after some number of them and then begun again
abbrev pub stops : (List Pair → List ℕ → List ℕ) → List Pair → List ℕ → List ℕ → List ℕ
stops play ws image [] = image
stops play ws image (k ∷ ks) = stops play ws (play (take k ws) image) ks

-- after how many the last of some is cut; n where there is none
abbrev pub last_of : ℕ → List ℕ → ℕ
last_of n [] = n
last_of n (k ∷ ks) = last_of k ks

-- the positions that a play of a table's script may change: the table's, and the bank select register where there is one
abbrev pub touched : Chip → ℕ → List ℕ
touched chip table = aside_in (banks_of chip) ++ positions (table_of chip table)
