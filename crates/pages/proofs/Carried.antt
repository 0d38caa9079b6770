-- What a test over a card's lines says of each line, carried to the row of every address: by induction over the lines.
-- Assumes nothing.
use Prim.Native.Nat.{ℕ}
use mathlib.Core.Path.{◌≡◌, refl, sym, ap, subst, ◌∙◌}
use mathlib.Core.Bool.{Bool, true, false, So, cond}
use mathlib.Core.List.{List, [], ◌∷◌}
use borrow.Author.Tests.{eqb-true}
use lib.Dec.{eqb}
use Rattle.pages.specs.Banks.{among}
use Rattle.pages.specs.Rows.{every, Line, Row, row, row_in}
use Rattle.pages.proofs.Every.{both}

-- a law of an address and its row that holds where there is no line, and of each line that passes
pub carried : (P : ℕ → Row → Type 0) (test : Line → Bool) → ((address : ℕ) → P address (row 0x00 0x00 0x00))
    → ((l : Line) → So (test l) → P l.0 (row l.1 l.2 l.3))
    → (lines : List Line) → So (every test lines) → (address : ℕ) → P address (row_in lines address)
carried P test none each [] t address = none address
carried P test none each (l ∷ ls) t address =
    let parts = both (test l) (every test ls) t in
    by_address (eqb l.0 address) refl (each l parts.0) (carried P test none each ls parts.1 address)
  where
    by_address : (here : Bool) → eqb l.0 address ≡ here → P l.0 (row l.1 l.2 l.3) → P address (row_in ls address)
        → P address (cond here (row l.1 l.2 l.3) (row_in ls address))
    by_address true e p q = subst (λ (a : ℕ). P a (row l.1 l.2 l.3)) (eqb-true l.0 address e) p
    by_address false e p q = q

-- a line elsewhere than at some addresses has no bit that clears on one
abbrev pub unclearing : List ℕ → Line → Bool
unclearing some l = cond (among some l.0) true (eqb l.2 0)

-- then no row elsewhere has one
pub clears_none : (some : List ℕ) (lines : List Line) → So (every (unclearing some) lines) → (address : ℕ) → among some address ≡ false
    → (row_in lines address).clears ≡ 0
clears_none some lines t address =
    carried (λ a r. among some a ≡ false → r.clears ≡ 0) (unclearing some) (λ a e. refl)
    (λ l p e. eqb-true l.2 0 (sym (ap (λ (b : Bool). cond b true (eqb l.2 0)) e) ∙ p))
    lines t address
