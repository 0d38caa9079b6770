-- What `std::array::from_fn` makes: where a call leaves the closure as it was and gives a value of the place alone, these values stand in the array.
-- Assumes nothing.
use Prim.Native.Nat.{ℕ, zero, suc, ◌+◌, ◌<◌}
use native.Mathlib.Nat.{add-zero, zero-add, le_of_suc-le-suc, not-suc-le-zero}
use native.Mathlib.Omega.{arith}
use mathlib.Core.Path.{◌≡◌, refl, sym, ap, ◌∙◌, subst}
use mathlib.Core.List.{List}
use lib.ListN.{get_or}
use denote.Param.Members.{Mut}
use Rattle.std.specs.Fn.{Called}
use Rattle.std.specs.Array.{IsFromFnResultFrom, IsFromFnResult}

module _ {F : Type 0} (g : Mut F (ℕ × Unit {0}) ℕ) (p : F) (f : ℕ → ℕ) (keeps : (k y : ℕ) (q : F) → Called g p (k, tt) y q → (q ≡ p) × (y ≡ f k)) where
  made_from : (ys : List ℕ) (i n k : ℕ) (q : F) → q ≡ p → IsFromFnResultFrom g q ys i n → k < n → get_or ys (i + k) 0 ≡ f (i + k)
  made_from ys i zero k q same made h = absurd (not-suc-le-zero h)
  made_from ys i (suc n) zero q same made h =
      let one = keeps i made.1 made.0 (subst (λ (z : F). Called g z (i, tt) made.1 made.0) same made.3) in
      ap (λ (j : ℕ). get_or ys j 0) (add-zero i) ∙ made.2.1 0 ∙ one.1 ∙ ap f (sym (add-zero i))
  made_from ys i (suc n) (suc k) q same made h =
      let one = keeps i made.1 made.0 (subst (λ (z : F). Called g z (i, tt) made.1 made.0) same made.3) in
      let next : i + suc k ≡ (i + 1) + k = omega arith in
      ap (λ (j : ℕ). get_or ys j 0) next ∙ made_from ys (i + 1) n k made.0 one.0 made.4 (le_of_suc-le-suc h) ∙ ap f (sym next)

  pub made : (ys : List ℕ) (n k : ℕ) → IsFromFnResult g p ys n → k < n → get_or ys k 0 ≡ f k
  made ys n k r h = ap (λ (j : ℕ). get_or ys j 0) (sym (zero-add k)) ∙ made_from ys 0 n k p refl r.each h ∙ ap f (zero-add k)
