-- Values that are laid into zeros one behind the other, and zeros behind them, are their column.
-- Assumes nothing.
use Prim.Native.Nat.{ℕ, zero, suc, ◌+◌, ◌-◌, ◌≤◌, ◌<◌}
use native.Mathlib.Omega.{arith}
use mathlib.Core.Path.{◌≡◌, refl, sym, ap, ap₂, ◌∙◌}
use mathlib.Core.Bool.{Bool, true, false}
use mathlib.Core.List.{List, [], ◌∷◌, ◌++◌, append_assoc}
use borrow.Author.Tests.{leb-true, leb-false}
use borrow.Rule.Slice.PartMut.{put_mid, post_of}
use lib.Dec.{leb}
use lib.ListN.{length, get_or, take, drop, set, replicate, length-append, length-drop, get_or-append, get_or-eq_default}
use lib.Seq.{take_at, drop_at, drop-drop, drop-cons, set_at, ext_get_or, get_or-drop, get_or-append-add}
use Rattle.pages.specs.Rows.{column}
use Rattle.pages.specs.Sheets.{longest}
use Rattle.pages.proofs.Columns.{column_length, column_at}

abbrev pub zeros : List ℕ
zeros = replicate longest 0

abbrev pub padded : List ℕ → List ℕ
padded l = l ++ drop (length l) zeros

-- a part behind what is laid already
pub laid_behind : (l ys : List ℕ) (a k : ℕ) → length l ≡ a → length ys ≡ k → put_mid a k (padded l) ys ≡ padded (l ++ ys)
laid_behind l ys a k p q =
    let front : take a (padded l) ≡ l = take_at l (drop (length l) zeros) a p in
    let rest : drop a (padded l) ≡ drop (length l) zeros = drop_at l (drop (length l) zeros) a p in
    let past : length l + k ≡ length (l ++ ys) = omega (arith, length-append l ys) in
    let behind : post_of a k (padded l) ≡ drop (length (l ++ ys)) zeros = ap (drop k) rest ∙ drop-drop k (length l) zeros ∙ ap (λ (n : ℕ). drop n zeros) past in
    ap₂ (λ (xs zs : List ℕ). xs ++ (ys ++ zs)) front behind ∙ sym (append_assoc l ys (drop (length (l ++ ys)) zeros))

-- one value behind
pub one_behind : (l : List ℕ) (n c : ℕ) → length l ≡ n → n < longest → set (padded l) n c ≡ padded (l ++ (c ∷ []))
one_behind l n c p h =
    let there : drop (length l) zeros ≡ get_or zeros (length l) 0 ∷ drop (suc (length l)) zeros = drop-cons zeros (length l) 0 (omega arith) in
    let past : suc (length l) ≡ length (l ++ (c ∷ [])) = omega (arith, length-append l (c ∷ [])) in
    ap (λ (zs : List ℕ). set (l ++ zs) n c) there
    ∙ set_at l (get_or zeros (length l) 0) (drop (suc (length l)) zeros) c n p
    ∙ ap (λ (m : ℕ). l ++ (c ∷ drop m zeros)) past
    ∙ sym (append_assoc l (c ∷ []) (drop (length (l ++ (c ∷ []))) zeros))

zero_at : (n k : ℕ) → ◌≡◌ {A = ℕ} (get_or (replicate n 0) k 0) 0
zero_at zero k = refl
zero_at (suc n) zero = refl
zero_at (suc n) (suc k) = zero_at n k

pub padded_column : (l : List ℕ) → length l ≤ longest → padded l ≡ column longest (λ k. get_or l k 0)
padded_column l h =
    ext_get_or 0 (padded l) (column longest (λ k. get_or l k 0))
    (omega (arith, length-append l (drop (length l) zeros), length-drop (length l) zeros, column_length longest (λ k. get_or l k 0)))
    (λ k m.
    let low : k < longest = omega (arith, length-append l (drop (length l) zeros), length-drop (length l) zeros) in
    by_place k (leb (length l) k) refl ∙ sym (column_at longest (λ j. get_or l j 0) k low))
  where
    by_place : (k : ℕ) (past : Bool) → leb (length l) k ≡ past → get_or (padded l) k 0 ≡ get_or l k 0
    by_place k false t = get_or-append l (drop (length l) zeros) 0 k (leb-false (length l) k t)
    by_place k true t =
        let place : k ≡ length l + (k - length l) = omega (arith, leb-true (length l) k t) in
        ap (λ (j : ℕ). get_or (padded l) j 0) place
        ∙ get_or-append-add l (drop (length l) zeros) (k - length l) 0
        ∙ get_or-drop (length l) zeros (k - length l) 0
        ∙ zero_at longest (length l + (k - length l))
        ∙ sym (get_or-eq_default l 0 (leb-true (length l) k t))
