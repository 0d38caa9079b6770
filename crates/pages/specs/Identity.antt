-- "Identity": an image is a chip's only if every bit that the rules paper names agrees.
-- Assumes nothing.
use Rattle.std.specs.Prelude.{ℕ, Bool, true, false, ◌&&◌, ◌||◌, List, [], ◌∷◌, eqb, get_or}
use Rattle.std.specs.Int.Bits.{bit_and}
use Rattle.pages.specs.declared.Chip.{Chip}
use Rattle.pages.specs.declared.Required.{Required}
use Rattle.pages.specs.Cards.{sheet_of}

-- the bits that count hold the value, or one of two
abbrev pub holds : List ℕ → Required → Bool
holds image r =
    let held = bit_and (get_or image r.position 0) r.bits in
    eqb held r.value || eqb held r.other

-- "Confirmed means all of them."
abbrev pub all_hold : List ℕ → List Required → Bool
all_hold image [] = true
all_hold image (r ∷ rs) = holds image r && all_hold image rs

-- "for chip 3 always: it has no identity rule here"
abbrev pub agrees : List ℕ → List Required → Bool
agrees image [] = false
agrees image (r ∷ rs) = all_hold image (r ∷ rs)

unfoldable pub confirmed : Chip → List ℕ → Bool
confirmed chip image = agrees image (sheet_of chip).identity
