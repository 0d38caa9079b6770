-- `f75373s::clears` meets its contract: by computation at two addresses, and no other line has a bit that clears on one.
use Rattle.std.proofs.Common.{◌≡◌, ℕ, false, List, [], ◌∷◌, refl, sym, ap, arith}
use Rattle.std.specs.Prelude.{IsTrue}
use Rattle.std.proofs.lemmas.Bool.Decides.{nat_tests}
use Rattle.pages.specs.Rows.{every, row_in}
use Rattle.pages.specs.F75373s.{card}
use Rattle.pages.specs.Banks.{among}
use Rattle.pages.proofs.Carried.{unclearing, clears_none}
use Rattle.f75373s.proofs.clears.Goals as goal

abbrev clearing : List ℕ
clearing = 0x31 ∷ 0x34 ∷ []

no-others : IsTrue (every (unclearing clearing) card)
unfolding card
no-others = refl

pub returns-in-49 : goal.returns-in-49
unfolding card
returns-in-49 c = ap (λ (position : ℕ). (row_in card position).clears) (sym c.in-49.is)

pub returns-in-52 : goal.returns-in-52
unfolding card
returns-in-52 c = ap (λ (position : ℕ). (row_in card position).clears) (sym c.in-52.is)

pub returns-in_default : goal.returns-in_default
returns-in_default c =
    let position = c.args.position in
    let other : among clearing position ≡ false = grind (arith, nat_tests) in
    sym (clears_none clearing card no-others position other)
