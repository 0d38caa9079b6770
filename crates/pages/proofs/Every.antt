-- A test computed once over a list, carried to each entry; what a mapped list holds; and lists of distinct numbers: by induction over the list.
-- Assumes nothing.
use Prim.Native.Nat.{ℕ, zero, suc, ◌<◌}
use native.Mathlib.Nat.{le_of_suc-le-suc, not-suc-le-zero}
use mathlib.Core.Path.{◌≡◌, refl, sym, ap}
use mathlib.Core.Bool.{Bool, true, So, not, ◌&&◌, and-eq-true_iff}
use mathlib.Core.List.{List, [], ◌∷◌, ◌++◌, map}
use borrow.Author.Tests.{eqb-false, not-true}
use lib.Dec.{eqb}
use lib.ListN.{length, get_or}
use Rattle.pages.specs.Rows.{every}

pub both : (a b : Bool) → So (a && b) → So a × So b
both a b t = (and-eq-true_iff a b).0 t

pub of_every : {A : Type 0} (test : A → Bool) (l : List A) (other : A) → So (every test l) → (k : ℕ) → k < length l → So (test (get_or l k other))
of_every test [] other t k h = absurd (not-suc-le-zero h)
of_every test (a ∷ l) other t zero h = (both (test a) (every test l) t).0
of_every test (a ∷ l) other t (suc k) h =
    of_every test l other (both (test a) (every test l) t).1 k (le_of_suc-le-suc h)

-- a test of two lists in a row is one of each
pub every_append : {A : Type 0} (test : A → Bool) (xs ys : List A) → So (every test (xs ++ ys)) → So (every test xs) × So (every test ys)
every_append test [] ys t = (refl, t)
every_append test (x ∷ xs) ys t =
    let parts = both (test x) (every test (xs ++ ys)) t in
    let rest = every_append test xs ys parts.1 in
    (rw (parts.0, rest.0), rest.1)

-- and to what stands in behind the last entry, where that passes too
pub everywhere : {A : Type 0} (test : A → Bool) (l : List A) (other : A) → So (test other) → So (every test l) → (k : ℕ) → So (test (get_or l k other))
everywhere test [] other o t k = o
everywhere test (a ∷ l) other o t zero = (both (test a) (every test l) t).0
everywhere test (a ∷ l) other o t (suc k) = everywhere test l other o (both (test a) (every test l) t).1 k

-- what a mapped list holds at a place
pub map_at : {A B : Type 0} (f : A → B) (l : List A) (other : A) (none : B) (k : ℕ) → k < length l → get_or (map f l) k none ≡ f (get_or l k other)
map_at f [] other none k h = absurd (not-suc-le-zero h)
map_at f (a ∷ l) other none zero h = refl
map_at f (a ∷ l) other none (suc k) h = map_at f l other none k (le_of_suc-le-suc h)

abbrev pub distinct : List ℕ → Bool
distinct [] = true
distinct (p ∷ ps) = every (λ q. not (eqb p q)) ps && distinct ps

differs : (p : ℕ) (ps : List ℕ) → So (every (λ q. not (eqb p q)) ps) → (k : ℕ) → k < length ps → p ≡ get_or ps k 0 → ⊥
differs p ps t k h e =
    eqb-false p (get_or ps k 0) (not-true (eqb p (get_or ps k 0)) (of_every (λ q. not (eqb p q)) ps 0 t k h)) e

-- what a list of distinct entries holds at a place, it holds nowhere else
pub apart : (ps : List ℕ) → So (distinct ps) → (j k : ℕ) → j < length ps → k < length ps → get_or ps j 0 ≡ get_or ps k 0 → j ≡ k
apart [] t j k h l e = absurd (not-suc-le-zero h)
apart (p ∷ ps) t zero zero h l e = refl
apart (p ∷ ps) t zero (suc k) h l e =
    absurd (differs p ps (both (every (λ q. not (eqb p q)) ps) (distinct ps) t).0 k (le_of_suc-le-suc l) e)
apart (p ∷ ps) t (suc j) zero h l e =
    absurd (differs p ps (both (every (λ q. not (eqb p q)) ps) (distinct ps) t).0 j (le_of_suc-le-suc h) (sym e))
apart (p ∷ ps) t (suc j) (suc k) h l e =
    ap suc (apart ps (both (every (λ q. not (eqb p q)) ps) (distinct ps) t).1 j k (le_of_suc-le-suc h) (le_of_suc-le-suc l) e)
