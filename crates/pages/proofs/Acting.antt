-- What a page says of the bits of a register that have effects: none where it does not list the register, and else what the test over its list shows.
-- Assumes nothing.
use Prim.Native.Nat.{ℕ, ◌^◌, ◌<◌}
use mathlib.Core.Path.{◌≡◌, refl, sym, ap, subst, ◌∙◌}
use mathlib.Core.Bool.{Bool, true, false, So, cond, not}
use mathlib.Core.List.{List, [], ◌∷◌, map}
use mathlib.Core.Logic.{◌⊎◌, inl, inr}
use borrow.Author.Tests.{eqb-true, ltb-true, not-true}
use lib.Bits.{bit_and, and_zero_l}
use lib.Dec.{eqb, ltb}
use Rattle.pages.specs.declared.Chip.{Chip}
use Rattle.pages.specs.declared.Effects.{Effects}
use Rattle.pages.specs.Banks.{shared_in}
use Rattle.pages.specs.Rows.{every, no_effects, effects_in}
use Rattle.pages.specs.Cards.{sheet_of, banks_of, size_of, row_of, effects_of}
use Rattle.pages.proofs.Every.{both}
use Rattle.pages.proofs.Sound.{none_of, quiet, taking, resting, effective, sound_sheet}

-- a register that takes every one of some bits
pub record Taking (chip : Chip) (bits position : ℕ) : Type 0 where
  pub inside : position < size_of chip
  pub address : position < 2 ^ 8
  pub shared : shared_in (banks_of chip) position ≡ true
  pub takes : bit_and (row_of chip position).writable bits ≡ bits

pub taking_facts : (chip : Chip) (bits position : ℕ) → So (taking (sheet_of chip) bits position) → Taking chip bits position
unfolding row_of
taking_facts chip bits position t =
    let one = both (ltb position (size_of chip)) _ t in
    let two = both (ltb position (2 ^ 8)) _ one.1 in
    let three = both (shared_in (banks_of chip) position) _ two.1 in
    record {
      inside = ltb-true position (size_of chip) one.0;
      address = ltb-true position (2 ^ 8) two.0;
      shared = three.0;
      takes = eqb-true (bit_and (row_of chip position).writable bits) bits three.1;
    }

-- one that takes them, where they are 0 at power-on
abbrev pub Resting : Chip → ℕ → ℕ → Type 0
Resting chip bits position = Taking chip bits position × (bit_and (row_of chip position).power bits ≡ 0)

resting_facts : (chip : Chip) (bits position : ℕ) → So (resting (sheet_of chip) bits position) → Resting chip bits position
unfolding row_of
resting_facts chip bits position t =
    let parts = both (taking (sheet_of chip) bits position) _ t in
    (taking_facts chip bits position parts.0, eqb-true (bit_and (row_of chip position).power bits) 0 parts.1)

-- what is tested of a page's list holds of the effects of every position, or there are none
listed : (test : ℕ × Effects → Bool) (ls : List (ℕ × Effects)) → So (every test ls) → (position : ℕ)
    → (effects_in ls position ≡ no_effects) ⊎ So (test (position, effects_in ls position))
listed test [] t position = inl refl
listed test (l ∷ ls) t position =
    let parts = both (test l) (every test ls) t in
    by_position (eqb l.0 position) refl parts.0 (listed test ls parts.1 position)
  where
    by_position : (here : Bool) → eqb l.0 position ≡ here → So (test l)
        → (effects_in ls position ≡ no_effects) ⊎ So (test (position, effects_in ls position))
        → (cond here l.1 (effects_in ls position) ≡ no_effects) ⊎ So (test (position, cond here l.1 (effects_in ls position)))
    by_position true e p q = inr (subst (λ (at : ℕ). So (test (at, l.1))) (eqb-true l.0 position e) p)
    by_position false e p q = q

abbrev pub Known : Chip → ℕ → Type 0
Known chip position =
    (effects_of chip position ≡ no_effects)
    ⊎ (Resting chip (effects_of chip position).initialize position × Resting chip (effects_of chip position).fleeting position)

pub effects_known : (chip : Chip) (position : ℕ) → Known chip position
unfolding effects_of
effects_known chip position = of_test (listed (effective (sheet_of chip)) (sheet_of chip).effects (sound_sheet chip).effects position)
  where
    of_test : (effects_of chip position ≡ no_effects) ⊎ So (effective (sheet_of chip) (position, effects_of chip position)) → Known chip position
    of_test (inl none) = inl none
    of_test (inr t) =
        let parts = both (resting (sheet_of chip) (effects_of chip position).initialize position) _ t in
        inr (resting_facts chip _ position parts.0, resting_facts chip _ position parts.1)

-- a register that the page does not list only stores ..
unlisted : (ls : List (ℕ × Effects)) (position : ℕ) → So (none_of (map (λ l. l.0) ls) position) → effects_in ls position ≡ no_effects
unlisted [] position t = refl
unlisted (l ∷ ls) position t =
    let parts = both (not (eqb l.0 position)) _ t in
    ap (λ (here : Bool). cond here l.1 (effects_in ls position)) (not-true (eqb l.0 position) parts.0) ∙ unlisted ls position parts.1

pub effects_quiet : (chip : Chip) (position : ℕ) → So (quiet (sheet_of chip) position) → effects_of chip position ≡ no_effects
unfolding effects_of
effects_quiet chip position t = unlisted (sheet_of chip).effects position t

-- .. and so does one of which no bit may be written
pub effects_closed : (chip : Chip) (position : ℕ) → (row_of chip position).writable ≡ 0 → effects_of chip position ≡ no_effects
effects_closed chip position e = of_known (effects_known chip position)
  where
    none : (bits : ℕ) → Taking chip bits position → bits ≡ 0
    none bits t = sym t.takes ∙ ap (λ (w : ℕ). bit_and w bits) e ∙ and_zero_l bits

    of_known : Known chip position → effects_of chip position ≡ no_effects
    of_known (inl known) = known
    of_known (inr (i, f)) = λ k. record { initialize = none _ i.0 k; fleeting = none _ f.0 k }
