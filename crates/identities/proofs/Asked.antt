-- The registers of an identity asked one after the other: all hold as far as the loop has come, and the first that does not decides.
-- Assumes nothing.
use Prim.Native.Nat.{ℕ, zero, suc, ◌<◌}
use native.Mathlib.Nat.{le_of_suc-le-suc, not-suc-le-zero}
use native.Mathlib.Omega.{arith}
use mathlib.Core.Path.{◌≡◌, refl, sym, ap, ap₂, ◌∙◌}
use mathlib.Core.Bool.{Bool, true, false, ◌&&◌}
use mathlib.Core.List.{List, [], ◌∷◌}
use borrow.Author.Tests.{lt-ltb, ltb-true}
use lib.Dec.{ltb}
use lib.ListN.{length, take}
use Rattle.pages.specs.declared.Chip.{Chip}
use Rattle.pages.specs.declared.Required.{Required}
use Rattle.pages.specs.Rows.{required_in}
use Rattle.pages.specs.Cards.{sheet_of, size_of}
use Rattle.pages.specs.Identity.{holds, all_hold, agrees}
use Rattle.pages.proofs.Every.{both, of_every}
use Rattle.pages.proofs.Sound.{lasting, sound_sheet}

-- identity looks inside the image
pub inside : (chip : Chip) (k : ℕ) → k < length (sheet_of chip).identity → (required_in (sheet_of chip).identity k).position < size_of chip
inside chip k h =
    let r = required_in (sheet_of chip).identity k in
    let part = (both (ltb r.position (size_of chip)) _ (of_every (lasting (sheet_of chip)) (sheet_of chip).identity _ (sound_sheet chip).identity k h)).0 in
    ltb-true r.position (size_of chip) part

pub none_asked : (image : List ℕ) (rs : List Required) → all_hold image (take 0 rs) ≡ true
none_asked image [] = refl
none_asked image (r ∷ rs) = refl

-- one more
pub one_more : (image : List ℕ) (rs : List Required) (k : ℕ) → k < length rs → all_hold image (take k rs) ≡ true → holds image (required_in rs k) ≡ true
    → all_hold image (take (suc k) rs) ≡ true
one_more image [] k h a e = absurd (not-suc-le-zero h)
one_more image (r ∷ rs) zero h a e = ap₂ ◌&&◌ e (none_asked image rs)
one_more image (r ∷ rs) (suc k) h a e =
    let parts = both (holds image r) (all_hold image (take k rs)) a in
    ap₂ ◌&&◌ parts.0 (one_more image rs k (le_of_suc-le-suc h) parts.1 e)

and_false : (a b : Bool) → b ≡ false → (a && b) ≡ false
and_false true b e = e
and_false false b e = refl

fails : (image : List ℕ) (rs : List Required) (k : ℕ) → k < length rs → holds image (required_in rs k) ≡ false → all_hold image rs ≡ false
fails image [] k h e = absurd (not-suc-le-zero h)
fails image (r ∷ rs) zero h e = ap (λ (b : Bool). b && all_hold image rs) e
fails image (r ∷ rs) (suc k) h e = and_false (holds image r) (all_hold image rs) (fails image rs k (le_of_suc-le-suc h) e)

-- one that does not hold is enough
pub one_fails : (image : List ℕ) (rs : List Required) (k : ℕ) → k < length rs → holds image (required_in rs k) ≡ false → agrees image rs ≡ false
one_fails image [] k h e = refl
one_fails image (r ∷ rs) k h e = fails image (r ∷ rs) k h e

-- all hold: confirmed where there is one at all
pub all_asked : (image : List ℕ) (rs : List Required) → all_hold image rs ≡ true → ltb 0 (length rs) ≡ agrees image rs
all_asked image [] a = refl
all_asked image (r ∷ rs) a = lt-ltb 0 (suc (length rs)) (omega arith) ∙ sym a
