-- What the library's searches say of a list is what the rules say: the first value that passes a test, and each value's order to the next.
-- Assumes nothing.
use Prim.Native.Nat.{ℕ, zero, suc, ◌+◌, ◌-◌, ◌≤◌, ◌<◌}
use native.Mathlib.Numerals.{add-one}
use native.Mathlib.Omega.{arith}
use mathlib.Core.Path.{◌≡◌, refl, sym, ap, ◌∙◌}
use mathlib.Core.Bool.{Bool, true, false, ◌&&◌, cond, not}
use mathlib.Core.List.{List, [], ◌∷◌}
use borrow.Author.Tests.{le-leb, lt-leb}
use lib.Dec.{ltb, leb}
use lib.ListN.{length, get_or}
use Rattle.std.proofs.Common.{Some, None}
use Rattle.std.specs.List.{IsAllAdjacentAnswer, position, position_or_len, slice_get}
use Rattle.std.proofs.lemmas.Option.{get_or_from_slice_get, slice_get-get_or, none-some}
use Rattle.std.proofs.lemmas.Grind.{common_steps}
use Rattle.std.proofs.lemmas.List.Quantifiers.{position-Some}
use Rattle.std.proofs.lemmas.List.Sums.{fails_before_first, prefix_len-le-length}
use Rattle.curves.specs.Curves.{Point, points, mean, above, below, slope, step_rule}
use Rattle.curves.specs.Orders.{chained, last_at_most}

-- where no value passes
pub none_passes : (p : ℕ → Bool) (l : List ℕ) → position p l ≡ None → position_or_len p l ≡ length l
none_passes p l h = grind (arith, common_steps, prefix_len-le-length (λ (x : ℕ). not (p x)) l)

chained_all : (related : ℕ → ℕ → Bool) (l : List ℕ) → ((k : ℕ) → suc k < length l → related (get_or l k 0) (get_or l (suc k) 0) ≡ true) → true ≡ chained related l
chained_all related [] h = refl
chained_all related (a ∷ []) h = refl
chained_all related (a ∷ (b ∷ l)) h = rw (h 0 (omega arith)) (chained_all related (b ∷ l) (λ k m. h (suc k) (omega arith)))

no_rest : (b rest : Bool) → false ≡ rest → false ≡ (b && rest)
no_rest true rest h = h
no_rest false rest h = refl

chained_broken : (related : ℕ → ℕ → Bool) (l : List ℕ) (k : ℕ) → suc k < length l → related (get_or l k 0) (get_or l (suc k) 0) ≡ false → false ≡ chained related l
chained_broken related [] k m h = absurd (omega arith)
chained_broken related (a ∷ []) k m h = absurd (omega arith)
chained_broken related (a ∷ (b ∷ l)) zero m h = rw h
chained_broken related (a ∷ (b ∷ l)) (suc k) m h = no_rest (related a b) _ (chained_broken related (b ∷ l) k (omega arith) h)

-- what `is_sorted_by` answers of a relation
pub in_chain : (related : ℕ → ℕ → Bool) (l : List ℕ) (r : Bool) → IsAllAdjacentAnswer (λ x y b. b ≡ related x y) l r → r ≡ chained related l
in_chain related l true h = chained_all related l (λ k m. rw (add-one k) at (sym (h k 0 (omega arith))))
in_chain related l false h = chained_broken related l h.0 (omega (arith, h.1)) (rw (add-one h.0) at (sym (h.2 0)))

-- the last of some temperatures, if there is one
last_at : (l : List ℕ) (n critical : ℕ) → length l ≡ suc n → last_at_most l critical ≡ leb (get_or l n 0) critical
last_at [] n critical e = absurd (omega arith)
last_at (a ∷ []) zero critical e = refl
last_at (a ∷ []) (suc n) critical e = absurd (omega arith)
last_at (a ∷ (b ∷ l)) zero critical e = absurd (omega arith)
last_at (a ∷ (b ∷ l)) (suc n) critical e = last_at (b ∷ l) n critical (omega arith)

pub last_there : (l : List ℕ) (critical last : ℕ) → slice_get l (length l - 1) ≡ Some last → last_at_most l critical ≡ leb last critical
last_there [] critical last found = absurd (cc)
last_there (a ∷ l) critical last found =
    let back : suc (length l) - 1 ≡ length l = omega arith in
    last_at (a ∷ l) (length l) critical refl ∙ ap (λ (x : ℕ). leb x critical) (get_or_from_slice_get (a ∷ l) (length l) last 0 (rw back at found))

pub last_missing : (l : List ℕ) (critical : ℕ) → slice_get l (length l - 1) ≡ None → last_at_most l critical ≡ true
last_missing [] critical none = refl
last_missing (a ∷ l) critical none =
    let back : suc (length l) - 1 ≡ length l = omega arith in
    let found = slice_get-get_or (a ∷ l) (length l) 0 (omega arith) in
    absurd (none-some _ (sym (rw back at none) ∙ found))

-- at critical and above, and below it
pub slope_hot : (full : ℕ) (ps : List Point) (critical t : ℕ) → critical ≤ t → full ≡ slope full ps critical t
unfolding slope
slope_hot full ps critical t h = rw (le-leb critical t h)

pub slope_cool : (full : ℕ) (ps : List Point) (critical t : ℕ) → t < critical → below full ps t ≡ slope full ps critical t
unfolding slope
slope_cool full ps critical t h = rw (lt-leb critical t h)

-- behind a first point: between the point before and the first one that T is at most, or above the last
above_here : (ts ds : List ℕ) (a d t k : ℕ) → length ts ≡ length ds → k < length ts → leb t (get_or ts k 0) ≡ true → ((j : ℕ) → j < k → leb t (get_or ts j 0) ≡ false)
    → mean (get_or (a ∷ ts) k 0, get_or (d ∷ ds) k 0) (get_or ts k 0, get_or ds k 0) t ≡ above (a, d) (points ts ds) t
unfolding above
above_here [] ds a d t k e l h g = absurd (omega arith)
above_here (b ∷ ts) [] a d t k e l h g = absurd (omega arith)
above_here (b ∷ ts) (c ∷ ds) a d t zero e l h g = rw h
above_here (b ∷ ts) (c ∷ ds) a d t (suc k) e l h g =
    rw (g 0 (omega arith)) (above_here ts ds b c t k (omega arith) (omega arith) h (λ j m. g (suc j) (omega arith)))

above_last : (ts ds : List ℕ) (a d t e : ℕ) → length ts ≡ length ds → ((j : ℕ) → j < length ts → leb t (get_or ts j 0) ≡ false)
    → get_or (d ∷ ds) (length ds) e ≡ above (a, d) (points ts ds) t
unfolding above
above_last [] [] a d t e same g = refl
above_last [] (c ∷ ds) a d t e same g = absurd (omega arith)
above_last (b ∷ ts) [] a d t e same g = absurd (omega arith)
above_last (b ∷ ts) (c ∷ ds) a d t e same g = rw (g 0 (omega arith)) (above_last ts ds b c t e (omega arith) (λ j m. g (suc j) (omega arith)))

-- below critical, by the place of the first point that T is at most
pub below_first : (full : ℕ) (ts ds : List ℕ) (t : ℕ) → length ts ≡ length ds → position (leb t) ts ≡ Some 0 → get_or ds 0 0 ≡ below full (points ts ds) t
unfolding below
below_first full ts ds t e found = by_list ts ds e (position-Some (leb t) ts 0 0 found)
  where
    by_list : (ts ds : List ℕ) → length ts ≡ length ds → (0 < length ts) × (leb t (get_or ts 0 0) ≡ true) × ((j : ℕ) → j < 0 → leb t (get_or ts j 0) ≡ false)
        → get_or ds 0 0 ≡ below full (points ts ds) t
    by_list [] ds e f = absurd (omega (arith, f.0))
    by_list (b ∷ ts) [] e f = absurd (omega arith)
    by_list (b ∷ ts) (c ∷ ds) e f = rw f.1

pub below_here : (full : ℕ) (ts ds : List ℕ) (t k : ℕ) → length ts ≡ length ds → 0 < k → position (leb t) ts ≡ Some k
    → mean (get_or ts (k - 1) 0, get_or ds (k - 1) 0) (get_or ts k 0, get_or ds k 0) t ≡ below full (points ts ds) t
unfolding below
below_here full ts ds t k e some found = by_list ts ds k e some (position-Some (leb t) ts k 0 found)
  where
    by_list : (ts ds : List ℕ) (k : ℕ) → length ts ≡ length ds → 0 < k → (k < length ts) × (leb t (get_or ts k 0) ≡ true) × ((j : ℕ) → j < k → leb t (get_or ts j 0) ≡ false)
        → mean (get_or ts (k - 1) 0, get_or ds (k - 1) 0) (get_or ts k 0, get_or ds k 0) t ≡ below full (points ts ds) t
    by_list ts ds zero e some f = absurd (omega arith)
    by_list [] ds (suc k) e some f = absurd (omega (arith, f.0))
    by_list (b ∷ ts) [] (suc k) e some f = absurd (omega arith)
    by_list (b ∷ ts) (c ∷ ds) (suc k) e some f =
        let back : suc k - 1 ≡ k = omega arith in
        rw (back, f.2 0 (omega arith)) (above_here ts ds b c t k (omega arith) (omega (arith, f.0)) f.1 (λ j m. f.2 (suc j) (omega arith)))

pub below_last : (full : ℕ) (ts ds : List ℕ) (t : ℕ) → length ts ≡ length ds → position (leb t) ts ≡ None → get_or ds (length ds - 1) full ≡ below full (points ts ds) t
unfolding below
below_last full ts ds t e none = by_list ts ds e (λ j m. fails_before_first (leb t) ts j 0 (omega (arith, none_passes (leb t) ts none)))
  where
    by_list : (ts ds : List ℕ) → length ts ≡ length ds → ((j : ℕ) → j < length ts → leb t (get_or ts j 0) ≡ false) → get_or ds (length ds - 1) full ≡ below full (points ts ds) t
    by_list [] [] e g = refl
    by_list [] (c ∷ ds) e g = absurd (omega arith)
    by_list (b ∷ ts) [] e g = absurd (omega arith)
    by_list (b ∷ ts) (c ∷ ds) e g =
        let back : suc (length ds) - 1 ≡ length ds = omega arith in
        rw (back, g 0 (omega arith)) (above_last ts ds b c t full (omega arith) (λ j m. g (suc j) (omega arith)))

-- the count of the first bound that T is above, or the one behind the last
pub step_at : (bounds counts : List ℕ) (t : ℕ) → get_or counts (position_or_len (λ b. ltb b t) bounds) 0 ≡ step_rule bounds counts t
unfolding step_rule
step_at [] [] t = refl
step_at [] (c ∷ counts) t = refl
step_at (b ∷ bounds) [] t = refl
step_at (b ∷ bounds) (c ∷ counts) t = by_test (ltb b t) (position_or_len (λ b. ltb b t) bounds) _ (step_at bounds counts t)
  where
    by_test : (past : Bool) (k rest : ℕ) → get_or counts k 0 ≡ rest → get_or (c ∷ counts) (cond (not past) (1 + k) 0) 0 ≡ cond past c rest
    by_test true k rest e = refl
    by_test false k rest e = let here : 1 + k ≡ suc k = omega arith in rw here e
