-- Written by position, a script's writes do to an image's registers what they do to a memory: each goes to a fan table's register, which holds the value
-- whole. A table's registers stand apart, so a script moves no other byte.
-- Assumes nothing.
use Prim.Native.Nat.{ℕ, zero, suc, ◌<◌, suc-le-suc}
use native.Mathlib.Nat.{suc_inj}
use native.Mathlib.Omega.{arith}
use mathlib.Core.Path.{◌≡◌, refl, sym, ap, ◌∙◌}
use mathlib.Core.Bool.{Bool, true, false}
use mathlib.Core.List.{List, [], ◌∷◌, ◌++◌}
use borrow.Author.Tests.{eqb-true, eqb-false}
use lib.Bits.{bit_and}
use lib.Dec.{eqb}
use lib.ListN.{length, get_or, take}
use Rattle.pages.specs.declared.Chip.{Chip}
use Rattle.pages.specs.Rows.{masks_in, positions}
use Rattle.pages.specs.Cards.{row_of, size_of, table_of, worth}
use Rattle.pages.proofs.Apart.{fitting_byte}
use Rattle.pages.proofs.Tables.{table_within, table_distinct}
use Rattle.images.specs.Bytes.{placed}
use Rattle.images.proofs.Laws.{stored_at_length, stored_at_other, stored_at_takes}
use Rattle.curves.specs.Orders.{All, Each}
use Rattle.scripts.specs.Scripts.{Pair, writes}
use Rattle.scripts.specs.Played.{laid}
use Rattle.scripts.specs.Rules.{Outside}
use Rattle.scripts.proofs.Memory.{Memory, put, puts, put_there, put_elsewhere, Distinct, Disjoint}
use Rattle.scripts.proofs.Safe.{Apart}

-- a register's writable bits can hold a value
abbrev pub Fit : Chip → ℕ → ℕ → Type 0
Fit chip position value = bit_and value (row_of chip position).writable ≡ value

-- a position of the image
abbrev pub Inside : Chip → ℕ → Type 0
Inside chip position = position < size_of chip

-- a write that its register takes whole
abbrev pub WholeWrite : Chip → Pair → Type 0
WholeWrite chip w = Fit chip w.0 w.1 × Inside chip w.0

abbrev pub WholeWrites : Chip → List Pair → Type 0
WholeWrites chip [] = Unit {0}
WholeWrites chip (w ∷ ws) = WholeWrite chip w × WholeWrites chip ws

pub laid_length : (chip : Chip) (ws : List Pair) (image : List ℕ) → length (laid chip ws image) ≡ length image
laid_length chip [] image = refl
laid_length chip (w ∷ ws) image =
    laid_length chip ws (placed chip w.0 w.1 image) ∙ stored_at_length (masks_in (row_of chip w.0)) w.0 w.1 image

placed_put : (chip : Chip) (w : Pair) (image : List ℕ) → WholeWrite chip w → length image ≡ size_of chip
    → worth chip (placed chip w.0 w.1 image) ≡ put (worth chip image) w
placed_put chip w image h e = λ i q. at_each q (eqb q w.0) refl i
  where
    at_each : (q : ℕ) (there : Bool) → eqb q w.0 ≡ there → worth chip (placed chip w.0 w.1 image) q ≡ put (worth chip image) w q
    at_each q true t =
        ap (worth chip (placed chip w.0 w.1 image)) (eqb-true q w.0 t)
        ∙ stored_at_takes (masks_in (row_of chip w.0)) w.0 w.1 image h.0 (fitting_byte chip w.0 w.1 h.0) (omega (arith, h.1))
        ∙ sym (put_there (worth chip image) w.0 w.1)
        ∙ sym (ap (put (worth chip image) w) (eqb-true q w.0 t))
    at_each q false t =
        let other = eqb-false q w.0 t in
        ap (λ (b : ℕ). bit_and b (row_of chip q).writable) (stored_at_other (masks_in (row_of chip w.0)) w.0 w.1 image q other)
        ∙ sym (put_elsewhere (worth chip image) w.0 w.1 q other)

pub laid_puts : (chip : Chip) (ws : List Pair) (image : List ℕ) → WholeWrites chip ws → length image ≡ size_of chip
    → worth chip (laid chip ws image) ≡ puts (worth chip image) ws
laid_puts chip [] image h e = refl
laid_puts chip (w ∷ ws) image h e =
    laid_puts chip ws (placed chip w.0 w.1 image) h.1 (stored_at_length (masks_in (row_of chip w.0)) w.0 w.1 image ∙ e)
    ∙ ap (λ (m : Memory). puts m ws) (placed_put chip w image h.0 e)

pub whole_take : (chip : Chip) (k : ℕ) (ws : List Pair) → WholeWrites chip ws → WholeWrites chip (take k ws)
whole_take chip zero ws h = tt
whole_take chip (suc k) [] h = tt
whole_take chip (suc k) (w ∷ ws) h = (h.0, whole_take chip k ws h.1)

pub whole_append : (chip : Chip) (xs ys : List Pair) → WholeWrites chip xs → WholeWrites chip ys → WholeWrites chip (xs ++ ys)
whole_append chip [] ys h k = k
whole_append chip (x ∷ xs) ys h k = (h.0, whole_append chip xs ys h.1 k)

pub whole_writes : (chip : Chip) (registers bytes : List ℕ) → All (Inside chip) registers → Each (Fit chip) registers bytes
    → WholeWrites chip (writes registers bytes)
whole_writes chip [] bytes f b = tt
whole_writes chip (p ∷ ps) [] f b = tt
whole_writes chip (p ∷ ps) (x ∷ xs) f b = ((b.0, f.0), whole_writes chip ps xs f.1 b.1)

-- from every place of a list to all of its entries
pub all_of : (P : ℕ → Type 0) (xs : List ℕ) → ((k : ℕ) → k < length xs → P (get_or xs k 0)) → All P xs
all_of P [] h = tt
all_of P (x ∷ xs) h = (h 0 (omega arith), all_of P xs (λ k l. h (suc k) (suc-le-suc l)))

pub all_front : (P : ℕ → Type 0) (xs ys : List ℕ) → All P (xs ++ ys) → All P xs
all_front P [] ys a = tt
all_front P (x ∷ xs) ys a = (a.0, all_front P xs ys a.1)

pub all_behind : (P : ℕ → Type 0) (xs ys : List ℕ) → All P (xs ++ ys) → All P ys
all_behind P [] ys a = a
all_behind P (x ∷ xs) ys a = all_behind P xs ys a.1

-- what holds of each pair of places of a list, of its entries
distinct_of : (xs : List ℕ) → ((j k : ℕ) → j < length xs → k < length xs → get_or xs j 0 ≡ get_or xs k 0 → j ≡ k) → Distinct xs
distinct_of [] h = tt
distinct_of (x ∷ xs) h = (
  all_of (λ q. q ≡ x → ⊥) xs (λ k l e. absurd (omega (arith, h (suc k) 0 (suc-le-suc l) (omega arith) e))),
  distinct_of xs (λ j k l m e. suc_inj (h (suc j) (suc k) (suc-le-suc l) (suc-le-suc m) e)),
)

distinct_left : (xs ys : List ℕ) → Distinct (xs ++ ys) → Distinct xs
distinct_left [] ys d = tt
distinct_left (x ∷ xs) ys d = (all_front (λ q. q ≡ x → ⊥) xs ys d.0, distinct_left xs ys d.1)

distinct_right : (xs ys : List ℕ) → Distinct (xs ++ ys) → Distinct ys
distinct_right [] ys d = d
distinct_right (x ∷ xs) ys d = distinct_right xs ys d.1

between : (xs ys : List ℕ) → Distinct (xs ++ ys) → Disjoint xs ys
between [] ys d = tt
between (x ∷ xs) ys d = (all_behind (λ q. q ≡ x → ⊥) xs ys d.0, between xs ys d.1)

-- disjoint either way round
disjoint_nil : (ys : List ℕ) → Disjoint ys []
disjoint_nil [] = tt
disjoint_nil (y ∷ ys) = (tt, disjoint_nil ys)

disjoint_cons : (ys : List ℕ) (x : ℕ) (xs : List ℕ) → Outside x ys → Disjoint ys xs → Disjoint ys (x ∷ xs)
disjoint_cons [] x xs o d = tt
disjoint_cons (y ∷ ys) x xs o d = ((λ e. o.0 (sym e), d.0), disjoint_cons ys x xs o.1 d.1)

turned : (xs ys : List ℕ) → Disjoint xs ys → Disjoint ys xs
turned [] ys d = disjoint_nil ys
turned (x ∷ xs) ys d = disjoint_cons ys x xs d.0 (turned xs ys d.1)

module _ (chip : Chip) (number : ℕ) where
  abbrev registers : List ℕ
  registers = positions (table_of chip number)

  all_inside : All (Inside chip) registers
  all_inside = all_of (Inside chip) registers (λ k l. table_within chip number k l)

  pub settings_inside : All (Inside chip) (table_of chip number).settings
  settings_inside = all_front (Inside chip) (table_of chip number).settings (table_of chip number).speeds all_inside

  pub speeds_inside : All (Inside chip) (table_of chip number).speeds
  speeds_inside = all_behind (Inside chip) (table_of chip number).settings (table_of chip number).speeds all_inside

  pub table_apart : Apart (table_of chip number)
  table_apart =
      let settings = (table_of chip number).settings in
      let speeds = (table_of chip number).speeds in
      let d = distinct_of registers (table_distinct chip number) in
      record {
        settings = distinct_left settings speeds d;
        speeds = distinct_right settings speeds d;
        between = between settings speeds d;
        across = turned settings speeds (between settings speeds d);
      }
