-- The rows of a card whose lines stand in several lists, one behind the other: a row is in the list that reaches as far as its position.
-- Assumes nothing.
use Prim.Native.Nat.{ℕ, ◌≤◌, ◌<◌}
use native.Mathlib.Omega.{arith}
use mathlib.Core.Path.{◌≡◌, refl, ap, ◌∙◌}
use mathlib.Core.Bool.{Bool, true, false, So, cond}
use mathlib.Core.List.{List, [], ◌∷◌, ◌++◌}
use borrow.Author.Tests.{leb-true, ltb-true, ne_eqb}
use lib.Dec.{eqb, leb, ltb}
use Rattle.pages.specs.Rows.{every, Line, row, row_in}
use Rattle.pages.proofs.Every.{both}

-- no row of a position stands in lines that all end before it ..
pub rows_behind : (bound : ℕ) (xs ys : List Line) → So (every (λ l. ltb l.0 bound) xs) → (p : ℕ) → bound ≤ p → row_in (xs ++ ys) p ≡ row_in ys p
rows_behind bound [] ys t p h = refl
rows_behind bound (l ∷ xs) ys t p h =
    let parts = both (ltb l.0 bound) (every (λ m. ltb m.0 bound) xs) t in
    let other = ne_eqb l.0 p (λ e. omega (arith, e, ltb-true l.0 bound parts.0, h)) in
    ap (λ (here : Bool). cond here (row l.1 l.2 l.3) (row_in (xs ++ ys) p)) other ∙ rows_behind bound xs ys parts.1 p h

-- .. nor in lines that all begin behind it
none_before : (bound : ℕ) (ys : List Line) → So (every (λ l. leb bound l.0) ys) → (p : ℕ) → p < bound → row_in ys p ≡ row 0x00 0x00 0x00
none_before bound [] t p h = refl
none_before bound (l ∷ ys) t p h =
    let parts = both (leb bound l.0) (every (λ m. leb bound m.0) ys) t in
    let other = ne_eqb l.0 p (λ e. omega (arith, e, leb-true bound l.0 parts.0, h)) in
    ap (λ (here : Bool). cond here (row l.1 l.2 l.3) (row_in ys p)) other ∙ none_before bound ys parts.1 p h

pub rows_before : (bound : ℕ) (xs ys : List Line) → So (every (λ l. leb bound l.0) ys) → (p : ℕ) → p < bound → row_in (xs ++ ys) p ≡ row_in xs p
rows_before bound [] ys t p h = none_before bound ys t p h
rows_before bound (l ∷ xs) ys t p h = by_place (eqb l.0 p) (rows_before bound xs ys t p h)
  where
    by_place : (here : Bool) → row_in (xs ++ ys) p ≡ row_in xs p
        → cond here (row l.1 l.2 l.3) (row_in (xs ++ ys) p) ≡ cond here (row l.1 l.2 l.3) (row_in xs p)
    by_place true e = refl
    by_place false e = e
