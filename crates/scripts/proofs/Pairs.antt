-- The pairs of a script by their places: first every speed register of the table with the full byte, then every register with the bytes of the
-- plan's body.
-- Assumes nothing.
use Prim.Native.Nat.{ℕ, zero, suc, ◌+◌, ◌<◌}
use native.Mathlib.Nat.{suc_inj, le_of_suc-le-suc, not-suc-le-zero}
use native.Mathlib.Omega.{arith}
use mathlib.Core.Path.{◌≡◌, refl, sym, ap, ap₂, ◌∙◌}
use mathlib.Core.List.{List, [], ◌∷◌, ◌++◌, map}
use lib.ListN.{length, get_or, length-append, length-replicate, get_or-replicate, get_or-append}
use lib.Seq.{get_or-append-add}
use Rattle.pages.specs.Rows.{Table, positions}
use Rattle.pages.specs.Sheets.{loaded}
use Rattle.curves.specs.Orders.{fulls}
use Rattle.curves.specs.Planned.{Curve}
use Rattle.bodies.specs.Bodies.{body}
use Rattle.scripts.specs.Scripts.{Pair, writes, script}

abbrev pub nothing : Pair
nothing = (0, 0)

writes_length : (ps bs : List ℕ) → length ps ≡ length bs → length (writes ps bs) ≡ length ps
writes_length [] bs e = refl
writes_length (p ∷ ps) [] e = sym e
writes_length (p ∷ ps) (b ∷ bs) e = ap suc (writes_length ps bs (suc_inj e))

writes_registers : (ps bs : List ℕ) → length ps ≡ length bs → map (λ w. w.0) (writes ps bs) ≡ ps
writes_registers [] bs e = refl
writes_registers (p ∷ ps) [] e = cc
writes_registers (p ∷ ps) (b ∷ bs) e = ap (λ (l : List ℕ). p ∷ l) (writes_registers ps bs (suc_inj e))

map_append : (xs ys : List Pair) → map (λ w. w.0) (xs ++ ys) ≡ map (λ w. w.0) xs ++ map (λ w. w.0) ys
map_append [] ys = refl
map_append (x ∷ xs) ys = ap (λ (l : List ℕ). x.0 ∷ l) (map_append xs ys)

writes_append : (ps qs bs cs : List ℕ) → length ps ≡ length bs → writes (ps ++ qs) (bs ++ cs) ≡ writes ps bs ++ writes qs cs
writes_append [] qs [] cs e = refl
writes_append [] qs (b ∷ bs) cs e = cc
writes_append (p ∷ ps) qs [] cs e = cc
writes_append (p ∷ ps) qs (b ∷ bs) cs e = ap (λ (l : List Pair). (p, b) ∷ l) (writes_append ps qs bs cs (suc_inj e))

writes_at : (ps bs : List ℕ) (k : ℕ) → k < length ps → length ps ≡ length bs → get_or (writes ps bs) k nothing ≡ (get_or ps k 0, get_or bs k 0)
writes_at [] bs k h e = absurd (not-suc-le-zero h)
writes_at (p ∷ ps) [] k h e = cc
writes_at (p ∷ ps) (b ∷ bs) zero h e = refl
writes_at (p ∷ ps) (b ∷ bs) (suc k) h e = writes_at ps bs k (le_of_suc-le-suc h) (suc_inj e)

module _ (full : ℕ) (table : Table) (curve : Curve)
    (es : length table.settings ≡ length curve.settings) (ev : length table.speeds ≡ length curve.speeds) where
  abbrev raises : List Pair
  raises = writes table.speeds (fulls full table.speeds)

  abbrev rest : List Pair
  rest = writes (positions table) (body curve)

  script_parts : script full table curve ≡ raises ++ rest
  script_parts =
      ap (λ (l : List Pair). raises ++ l) (sym (writes_append table.settings table.speeds curve.settings curve.speeds es))

  raises_length : length raises ≡ length table.speeds
  raises_length =
      writes_length table.speeds (fulls full table.speeds) (sym (length-replicate (length table.speeds) full))

  as_long : length (positions table) ≡ length (body curve)
  as_long =
      length-append table.settings table.speeds ∙ ap₂ ◌+◌ es ev ∙ sym (length-append curve.settings curve.speeds)

  pub script_length_is : length (script full table curve) ≡ length table.speeds + (length table.settings + length table.speeds)
  script_length_is =
      ap length script_parts ∙ length-append raises rest
      ∙ ap₂ ◌+◌ raises_length (writes_length (positions table) (body curve) as_long ∙ length-append table.settings table.speeds)

  -- the registers that it writes to
  pub script_registers : map (λ w. w.0) (script full table curve) ≡ loaded table
  script_registers =
      map_append (writes table.speeds (fulls full table.speeds)) (writes table.settings curve.settings ++ writes table.speeds curve.speeds)
      ∙ ap₂ (λ (xs ys : List ℕ). xs ++ ys)
      (writes_registers table.speeds (fulls full table.speeds) (sym (length-replicate (length table.speeds) full)))
      (map_append (writes table.settings curve.settings) (writes table.speeds curve.speeds)
      ∙ ap₂ (λ (xs ys : List ℕ). xs ++ ys) (writes_registers table.settings curve.settings es) (writes_registers table.speeds curve.speeds ev))

  pub raised_at : (k : ℕ) → k < length table.speeds
      → get_or (script full table curve) k nothing ≡ (get_or (positions table) (length table.settings + k) 0, full)
  raised_at k h =
      ap (λ (l : List Pair). get_or l k nothing) script_parts
      ∙ get_or-append raises rest nothing k (omega (arith, raises_length))
      ∙ writes_at table.speeds (fulls full table.speeds) k h (sym (length-replicate (length table.speeds) full))
      ∙ ap₂ (λ (a b : ℕ). (a, b)) (sym (get_or-append-add table.settings table.speeds k 0)) (get_or-replicate (length table.speeds) k full 0 h)

  pub body_at : (j : ℕ) → j < length table.settings + length table.speeds
      → get_or (script full table curve) (length table.speeds + j) nothing ≡ (get_or (positions table) j 0, get_or (body curve) j 0)
  body_at j h =
      ap (λ (l : List Pair). get_or l (length table.speeds + j) nothing) script_parts
      ∙ ap (λ (n : ℕ). get_or (raises ++ rest) (n + j) nothing) (sym raises_length)
      ∙ get_or-append-add raises rest j nothing
      ∙ writes_at (positions table) (body curve) j (omega (arith, length-append table.settings table.speeds)) as_long
