-- `plans::tables::each_fits` meets its contract: all of the places pass the test.
-- Assumes nothing.
use Prim.Native.Nat.{ℕ, zero, suc, ◌-◌}
use native.Mathlib.Numerals.{add-one}
use mathlib.Core.Path.{◌≡◌, refl, ap, ◌∙◌}
use mathlib.Core.Bool.{Bool, ◌&&◌}
use mathlib.Core.List.{List}
use borrow.Author.Tests.{tests}
use borrow.Author.Rules.{rules}
use lib.Bits.{bit_and}
use lib.Dec.{eqb}
use lib.ListN.{get_or}
use Rattle.std.specs.List.{range_with_len, list_all}
use Rattle.std.proofs.lemmas.Iterator.{YieldsList-from_range}
use Rattle.std.proofs.lemmas.Iterator.Search.{all_from_yields_List}
use Rattle.pages.specs.declared.Register.{Register}
use Rattle.pages.specs.Rows.{stands_at}
use Rattle.plans.specs.Parts.{fit_from}
use Rattle.plans.proofs.tables.each_fits.Goals as goal

abbrev fits : (ℕ → Register) → List ℕ → ℕ → Bool
fits register values k = eqb (bit_and (get_or values k 0) (register k).masks.writable) (get_or values k 0)

all_fit : (register : ℕ → Register) (values : List ℕ) (place n : ℕ) → list_all (fits register values) (range_with_len place n) ≡ fit_from register values place n
all_fit register values place zero = refl
all_fit register values place (suc n) =
    ap (λ (b : Bool). fits register values place && b)
    (ap (λ (k : ℕ). list_all (fits register values) (range_with_len k n)) (add-one place) ∙ all_fit register values (suc place) n)

pub returns : goal.returns
returns c =
    let a = c.args in
    let register = stands_at a.stretches in
    all_from_yields_List (fits register a.body) _ _ _ c.all.ensures.ran (YieldsList-from_range a.from a.to (a.to - a.from) refl refl)
    (λ k b q called. search (rules, tests))
    ∙ all_fit register a.body a.from (a.to - a.from)
