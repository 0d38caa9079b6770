-- No second answer of a look-up meets its contract.
-- Assumes nothing.
use Rattle.std.specs.Prelude.{Option, Result}
use Rattle.refusal.specs.declared.Refusal.{Refusal}
use Prim.Native.Nat.{ℕ}
use mathlib.Core.Bool.{Bool}
use mathlib.Core.Path.{◌≡◌, sym, ◌∙◌}
use Rattle.pages.specs.declared.Chip.{Chip}
use Rattle.pages.specs.declared.Effects.{Effects}
use Rattle.pages.specs.declared.Layout.{Layout}
use Rattle.pages.specs.declared.Masks.{Masks}
use Rattle.pages.specs.declared.Ground.{Ground}
use Rattle.pages.specs.declared.Register.{Register}
use Rattle.pages.specs.declared.Required.{Required}
use Rattle.pages.specs.declared.Selector.{Selector}
use Rattle.pages.specs.declared.Sizes.{Sizes}
use Rattle.pages.specs.Promises.{GoesWith, Names, Finds, Acts, Reports, PowersOn, TellsSizes, Requires, Lays, LaysOut, Stands, Selects, Positions, StandsInOneRow, StandsAt}

pub names_unique : {number : ℕ} {r s : Result Chip Refusal} → Names number r → Names number s → r ≡ s
names_unique p q = p.answer ∙ sym q.answer

pub finds_unique : {chip : Chip} {position : ℕ} {r s : Masks} → Finds chip position r → Finds chip position s → r ≡ s
finds_unique p q = p.answer ∙ sym q.answer

pub acts_unique : {chip : Chip} {position : ℕ} {r s : Effects} → Acts chip position r → Acts chip position s → r ≡ s
acts_unique p q = p.answer ∙ sym q.answer

pub reports_unique : {chip : Chip} {position : ℕ} {r s : Bool} → Reports chip position r → Reports chip position s → r ≡ s
reports_unique p q = p.answer ∙ sym q.answer

pub powers_on_unique : {chip : Chip} {position r s : ℕ} → PowersOn chip position r → PowersOn chip position s → r ≡ s
powers_on_unique p q = p.answer ∙ sym q.answer

pub measures_unique : {chip : Chip} {r s : Sizes} → TellsSizes chip r → TellsSizes chip s → r ≡ s
measures_unique p q = p.answer ∙ sym q.answer

pub requires_unique : {chip : Chip} {k : ℕ} {r s : Required} → Requires chip k r → Requires chip k s → r ≡ s
requires_unique p q = p.answer ∙ sym q.answer

pub lays_unique : {chip : Chip} {number : ℕ} {r s : Option Layout} → Lays chip number r → Lays chip number s → r ≡ s
lays_unique p q = p.answer ∙ sym q.answer

pub lays_out_unique : {chip : Chip} {number : ℕ} {r s : Layout} → LaysOut chip number r → LaysOut chip number s → r ≡ s
lays_out_unique p q = p.answer ∙ sym q.answer

pub stands_unique : {chip : Chip} {number : ℕ} {r s : Ground} → Stands chip number r → Stands chip number s → r ≡ s
stands_unique p q = p.answer ∙ sym q.answer

pub selects_unique : {chip : Chip} {r s : Selector} → Selects chip r → Selects chip s → r ≡ s
selects_unique p q = p.answer ∙ sym q.answer

pub positions_unique : {chip : Chip} {bank address r s : ℕ} → Positions chip bank address r → Positions chip bank address s → r ≡ s
positions_unique p q = p.answer ∙ sym q.answer

pub one_row_unique : {first settings speeds : ℕ} {masks : Masks} {r s : Ground}
    → StandsInOneRow first settings speeds masks r → StandsInOneRow first settings speeds masks s → r ≡ s
one_row_unique p q = p.answer ∙ sym q.answer

pub stands_at_unique : {stretches : Ground} {k : ℕ} {r s : Register} → StandsAt stretches k r → StandsAt stretches k s → r ≡ s
stands_at_unique p q = p.answer ∙ sym q.answer

pub goes_with_unique : {layout : Layout} {points : ℕ} {r s : Bool} → GoesWith layout points r → GoesWith layout points s → r ≡ s
goes_with_unique p q = p.answer ∙ sym q.answer
