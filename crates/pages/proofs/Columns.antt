-- A column has a number for each position, that of the position; and a register's masks go by the card's columns.
-- Assumes nothing.
use Prim.Native.Nat.{ℕ, zero, suc, ◌+◌, ◌<◌}
use native.Mathlib.Nat.{add-zero, zero-add, add-suc, suc-add, le_of_suc-le-suc, not-suc-le-zero}
use mathlib.Core.Path.{◌≡◌, refl, sym, ap, subst, ◌∙◌}
use mathlib.Core.List.{List}
use lib.ListN.{length, get_or}
use lib.Seq.{ext_get_or}
use Rattle.pages.specs.Rows.{Line, row, masks_in, row_in, each_from, column}

pub run_length : (f : ℕ → ℕ) (first n : ℕ) → length (each_from f first n) ≡ n
run_length f first zero = refl
run_length f first (suc n) = ap suc (run_length f (suc first) n)

pub run_at : (f : ℕ → ℕ) (first n k : ℕ) → k < n → get_or (each_from f first n) k 0 ≡ f (first + k)
run_at f first zero k h = absurd (not-suc-le-zero h)
run_at f first (suc n) zero h = ap f (sym (add-zero first))
run_at f first (suc n) (suc k) h =
    run_at f (suc first) n k (le_of_suc-le-suc h) ∙ ap f (suc-add first k ∙ sym (add-suc first k))

pub column_length : (n : ℕ) (f : ℕ → ℕ) → length (column n f) ≡ n
unfolding column
column_length n f = run_length f 0 n

pub column_at : (n : ℕ) (f : ℕ → ℕ) (position : ℕ) → position < n → get_or (column n f) position 0 ≡ f position
unfolding column
column_at n f position h = run_at f 0 n position h ∙ ap f (zero-add position)

-- what holds a number for each position alike is one column
pub column_same : (n : ℕ) (f g : ℕ → ℕ) → ((k : ℕ) → k < n → f k ≡ g k) → column n f ≡ column n g
column_same n f g e =
    ext_get_or 0 (column n f) (column n g) (column_length n f ∙ sym (column_length n g))
    (λ k h.
    let low : k < n = subst (λ (m : ℕ). k < m) (column_length n f) h in
    column_at n f k low ∙ e k low ∙ sym (column_at n g k low))

-- a register's masks: what the card's column of writable bits holds at its position, and its bits that clear on one
pub masks_of_column : (n : ℕ) (lines : List Line) (position clears : ℕ) → position < n → clears ≡ (row_in lines position).clears
    → masks_in (row (get_or (column n (λ p. (row_in lines p).writable)) position 0) clears 0) ≡ masks_in (row_in lines position)
masks_of_column n lines position clears h e = rw (column_at n (λ p. (row_in lines p).writable) position h, e)
