-- `identities::confirmed` meets its contract: as far as the loop has come every register agrees.
-- Assumes nothing.
use Prim.Native.Nat.{ℕ, ◌<◌}
use native.Mathlib.Omega.{arith}
use native.Mathlib.Numerals.{add-one}
use mathlib.Core.Path.{◌≡◌, sym, ap, ◌∙◌}
use mathlib.Core.Bool.{true}
use lib.Dec.{ltb}
use lib.ListN.{length, take}
use lib.Seq.{take_all}
use Rattle.pages.specs.declared.Required.{Required}
use Rattle.pages.specs.declared.Sizes.{Sizes}
use Rattle.pages.specs.Cards.{sheet_of, size_of}
use Rattle.pages.specs.Identity.{holds, all_hold, confirmed}
use Rattle.identities.proofs.Asked.{inside, one_more, one_fails, all_asked}
use borrow.Author.Rules.{rules}
use Rattle.identities.proofs.confirmed.Goals as goal

pub holds-requires : goal.holds-requires
holds-requires c =
    let a = c.args in
    let count = ap (λ (s : Sizes). s.identity) c.sizes_of-sizes.ensures.answer in
    let there : c.loop-k.k < length (sheet_of a.chip).identity = omega arith in
    let long : length a.image.now ≡ size_of a.chip = search rules in
    omega (arith, ap (λ (r : Required). r.position) c.required_of-required.ensures.answer, inside a.chip c.loop-k.k there, long)

pub returns-then-not-holds : goal.returns-then-not-holds
unfolding confirmed
returns-then-not-holds c =
    let a = c.args in
    let count = ap (λ (s : Sizes). s.identity) c.sizes_of-sizes.ensures.answer in
    let asked = ap (holds a.image.now) c.required_of-required.ensures.answer in
    sym
    (one_fails a.image.now (sheet_of a.chip).identity c.loop-k.k (omega arith)
    (sym asked ∙ sym c.holds.ensures ∙ c.if-not-holds.true))

pub loop-k-preserved : goal.loop-k-preserved
loop-k-preserved c =
    let a = c.args in
    let count = ap (λ (s : Sizes). s.identity) c.sizes_of-sizes.ensures.answer in
    let there : c.loop-k.k < length (sheet_of a.chip).identity = omega arith in
    let asked = ap (holds a.image.now) c.required_of-required.ensures.answer in
    ap (λ (n : ℕ). all_hold a.image.now (take n (sheet_of a.chip).identity)) (add-one c.loop-k.k)
    ∙ one_more a.image.now (sheet_of a.chip).identity c.loop-k.k there c.loop-k.invariant (sym asked ∙ sym c.holds.ensures ∙ c.if-not-holds.false)

pub returns : goal.returns
unfolding confirmed
returns c =
    let a = c.args in
    let count = ap (λ (s : Sizes). s.identity) c.sizes_of-sizes.ensures.answer in
    let rs = (sheet_of a.chip).identity in
    let all : all_hold a.image.now rs ≡ true =
    sym (ap (all_hold a.image.now) (take_all c.loop-k.k rs (omega arith))) ∙ c.loop-k.invariant in
    ap (ltb 0) count ∙ all_asked a.image.now rs all
