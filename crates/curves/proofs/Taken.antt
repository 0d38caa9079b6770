-- The first of some numbers: as many as there are, and what a map makes of them.
-- Assumes nothing.
use Prim.Native.Nat.{ℕ, min}
use mathlib.Core.Path.{◌≡◌, sym, ap, ◌∙◌}
use mathlib.Core.List.{List, map}
use lib.ListN.{length, take, length-map}
use Rattle.std.proofs.lemmas.List.{take_min, take-map}

-- no more than all can be taken
pub take_room : (n m : ℕ) (l : List ℕ) → length l ≡ m → take (min n m) l ≡ take n l
take_room n m l h = ap (λ (k : ℕ). take (min n k) l) (sym h) ∙ take_min n l

-- both at once
pub taken_map : (f : ℕ → ℕ) (n m : ℕ) (l : List ℕ) → length l ≡ m → take (min n m) (map f l) ≡ map f (take n l)
taken_map f n m l h = take_room n m (map f l) (length-map l f ∙ h) ∙ take-map f n l
