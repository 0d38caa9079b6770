-- What the card says of the addresses of each arm of `row_at`, by computation over them.
use Prim.Native.Nat.{ℕ, suc, ◌-◌, ◌≤◌, ◌<◌}
use native.Mathlib.Omega.{arith}
use mathlib.Core.Path.{◌≡◌, refl, sym, ap, subst, ◌∙◌}
use mathlib.Core.Bool.{Bool, So, ◌&&◌}
use mathlib.Core.List.{List}
use borrow.Author.Tests.{eqb-true}
use lib.Dec.{eqb}
use lib.ListN.{get_or}
use Rattle.pages.specs.declared.Chip.TheVariants.{Nct80}
use Rattle.pages.specs.Rows.{every, Row, from}
use Rattle.pages.specs.Cards.{sheet_of, row_of}
use Rattle.pages.specs.Nct80.{card}
use Rattle.pages.proofs.Columns.{run_length, run_at}
use Rattle.pages.proofs.Every.{both, of_every}
use Rattle.pages.proofs.Lines.{row_beyond}

abbrev Told : ℕ → ℕ → ℕ → Type 0
Told writable power position = (writable ≡ (row_of Nct80 position).writable) × (power ≡ (row_of Nct80 position).power)

abbrev tells : ℕ → ℕ → ℕ → Bool
tells writable power position = eqb writable (row_of Nct80 position).writable && eqb power (row_of Nct80 position).power

abbrev range : ℕ → ℕ → List ℕ
range first last = from first (suc last - first)

-- a test of a range holds of each position in it
in-range : (test : ℕ → Bool) (first last : ℕ) → So (every test (range first last)) → (position : ℕ) → first ≤ position → position < suc last
    → So (test position)
in-range test first last t position low high =
    let k = position - first in
    let n = suc last - first in
    let there : get_or (from first n) k 0 ≡ position = run_at (λ a. a) first n k (omega (arith, low, high)) ∙ omega (arith, low) in
    subst (λ (a : ℕ). So (test a)) there
    (of_every test (from first n) 0 t k (rw (run_length (λ a. a) first n) (omega (arith, low, high))))

-- a row that passes is the one told
passes : (writable power position : ℕ) → So (tells writable power position) → Told writable power position
passes writable power position t =
    let parts = both (eqb writable (row_of Nct80 position).writable) _ t in
    (eqb-true _ _ parts.0, eqb-true _ _ parts.1)

-- so is that of each position in a range of one row throughout ..
told : (first last : ℕ) {writable power position : ℕ} → So (every (tells writable power) (range first last)) → first ≤ position → position < suc last
    → Told writable power position
told first last {writable} {power} {position} t low high =
    passes writable power position (in-range (tells writable power) first last t position low high)

-- .. and that of a single address
alone : (address : ℕ) {writable power position : ℕ} → So (tells writable power address) → position ≡ address → Told writable power position
alone address {writable} {power} {position} t e =
    passes writable power position (subst (λ (a : ℕ). So (tells writable power a)) (sym e) t)

-- behind the last line, that of 3Eh, there is no register
unlisted : {position : ℕ} → 0x3E ≤ position → (position ≡ 0x3E → ⊥) → Told 0x00 0x00 position
unfolding sheet_of row_of card
unlisted {position} low other =
    let none = row_beyond 0x3F 0x00 card refl position (omega (arith, low, other)) in
    (ap (λ (r : Row). r.writable) (sym none), ap (λ (r : Row). r.power) (sym none))

pub row_00 : (position : ℕ) → position ≡ 0x00 → Told 0xFF 0x08 position
unfolding sheet_of row_of card
row_00 position e = alone 0x00 refl e

pub row_01_to_02 : (position : ℕ) → 0x01 ≤ position → position ≤ 0x02 → Told 0x00 0x00 position
unfolding sheet_of row_of card
row_01_to_02 position low high = told 0x01 0x02 {position = position} refl low (omega arith)

pub row_03_to_04 : (position : ℕ) → 0x03 ≤ position → position ≤ 0x04 → Told 0xFF 0x00 position
unfolding sheet_of row_of card
row_03_to_04 position low high = told 0x03 0x04 {position = position} refl low (omega arith)

pub row_05 : (position : ℕ) → position ≡ 0x05 → Told 0xFF 0x14 position
unfolding sheet_of row_of card
row_05 position e = alone 0x05 refl e

pub row_06 : (position : ℕ) → position ≡ 0x06 → Told 0xFE 0x01 position
unfolding sheet_of row_of card
row_06 position e = alone 0x06 refl e

pub row_07 : (position : ℕ) → position ≡ 0x07 → Told 0x01 0x00 position
unfolding sheet_of row_of card
row_07 position e = alone 0x07 refl e

pub row_08 : (position : ℕ) → position ≡ 0x08 → Told 0xFF 0x00 position
unfolding sheet_of row_of card
row_08 position e = alone 0x08 refl e

pub row_09 : (position : ℕ) → position ≡ 0x09 → Told 0x07 0x00 position
unfolding sheet_of row_of card
row_09 position e = alone 0x09 refl e

pub row_0a_to_1f : (position : ℕ) → 0x0A ≤ position → position ≤ 0x1F → Told 0x00 0x00 position
unfolding sheet_of row_of card
row_0a_to_1f position low high = told 0x0A 0x1F {position = position} refl low (omega arith)

pub row_20_to_29 : (position : ℕ) → 0x20 ≤ position → position ≤ 0x29 → Told 0x00 0x00 position
unfolding sheet_of row_of card
row_20_to_29 position low high = told 0x20 0x29 {position = position} refl low (omega arith)

pub row_2a_to_37 : (position : ℕ) → 0x2A ≤ position → position ≤ 0x37 → Told 0xFF 0x00 position
unfolding sheet_of row_of card
row_2a_to_37 position low high = told 0x2A 0x37 {position = position} refl low (omega arith)

pub row_38 : (position : ℕ) → position ≡ 0x38 → Told 0xFF 0x55 position
unfolding sheet_of row_of card
row_38 position e = alone 0x38 refl e

pub row_39 : (position : ℕ) → position ≡ 0x39 → Told 0xFF 0x4B position
unfolding sheet_of row_of card
row_39 position e = alone 0x39 refl e

pub row_3a : (position : ℕ) → position ≡ 0x3A → Told 0xFF 0x55 position
unfolding sheet_of row_of card
row_3a position e = alone 0x3A refl e

pub row_3b : (position : ℕ) → position ≡ 0x3B → Told 0xFF 0x4B position
unfolding sheet_of row_of card
row_3b position e = alone 0x3B refl e

pub row_3c_to_3d : (position : ℕ) → 0x3C ≤ position → position ≤ 0x3D → Told 0xFF 0xFF position
unfolding sheet_of row_of card
row_3c_to_3d position low high = told 0x3C 0x3D {position = position} refl low (omega arith)

pub row_3e : (position : ℕ) → position ≡ 0x3E → Told 0x00 0x1A position
unfolding sheet_of row_of card
row_3e position e = alone 0x3E refl e

pub row_3f_on : (position : ℕ) → 0x3F ≤ position → Told 0x00 0x00 position
row_3f_on position low = unlisted (omega arith) (λ e. omega arith)

pub ruleset rows = (row_00, row_01_to_02, row_03_to_04, row_05, row_06, row_07, row_08, row_09, row_0a_to_1f, row_20_to_29, row_2a_to_37, row_38, row_39, row_3a, row_3b, row_3c_to_3d, row_3e, row_3f_on)
