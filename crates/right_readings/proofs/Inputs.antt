-- What a list of inputs says at the addresses that an arm of a `match` knows, and what it says elsewhere where it begins with inputs of one worth.
-- Assumes nothing.
use Prim.Native.Nat.{ℕ}
use mathlib.Core.Path.{◌≡◌, refl, sym, ap, ◌∙◌, subst}
use mathlib.Core.Bool.{Bool, true, false, So, ◌||◌, cond, true≢false}
use mathlib.Core.List.{List, [], ◌∷◌}
use mathlib.Core.Logic.{inl, inr}
use borrow.Author.Tests.{eqb-true}
use lib.Dec.{T, eqb}
use mir.Val.{has_key}
use types.Run.{OneOf, hit}
use Rattle.pages.specs.Rows.{every}
use Rattle.pages.proofs.Every.{both}
use Rattle.right_readings.specs.Inputs.{Input, worth_in}

-- of each of some addresses the list says one worth, so it does of one that is among them
pub of_arm : (lines : List Input) (worth : ℕ) (some : List ℕ) → So (every (λ a. eqb (worth_in lines a) worth) some) → (address : ℕ) → OneOf some address
    → worth_in lines address ≡ worth
of_arm lines worth [] t address o = absurd o
of_arm lines worth (a ∷ []) t address e = ap (worth_in lines) e ∙ eqb-true (worth_in lines a) worth (both (eqb (worth_in lines a) worth) true t).0
of_arm lines worth (a ∷ b ∷ some) t address (inl e) =
    ap (worth_in lines) e ∙ eqb-true (worth_in lines a) worth (both (eqb (worth_in lines a) worth) (every (λ n. eqb (worth_in lines n) worth) (b ∷ some)) t).0
of_arm lines worth (a ∷ b ∷ some) t address (inr o) =
    of_arm lines worth (b ∷ some) (both (eqb (worth_in lines a) worth) (every (λ n. eqb (worth_in lines n) worth) (b ∷ some)) t).1 address o

-- inputs of one worth, and then others
abbrev pub alike : ℕ → List ℕ → List Input → List Input
alike worth [] others = others
alike worth (address ∷ some) others = (address, worth) ∷ alike worth some others

-- what an arm behind that of some addresses knows
pub elsewhere : (worth : ℕ) (some : List ℕ) (others : List Input) (address : ℕ) → (OneOf some address → ⊥)
    → worth_in (alike worth some others) address ≡ worth_in others address
elsewhere worth some others address n = passed some (by_test (has_key some address) refl)
  where
    by_test : (b : Bool) → has_key some address ≡ b → has_key some address ≡ false
    by_test true e = absurd (n (hit some address (subst T (sym e) tt)))
    by_test false e = e

    passed : (l : List ℕ) → has_key l address ≡ false → worth_in (alike worth l others) address ≡ worth_in others address
    passed [] e = refl
    passed (a ∷ l) e = here (eqb a address) e (passed l)
      where
        here : (b : Bool) → (b || has_key l address) ≡ false → (has_key l address ≡ false → worth_in (alike worth l others) address ≡ worth_in others address)
            → cond b worth (worth_in (alike worth l others) address) ≡ worth_in others address
        here true h p = absurd (true≢false h)
        here false h p = p h
