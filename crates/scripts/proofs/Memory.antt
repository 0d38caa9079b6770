-- Registers as a function from positions to bytes: what one write changes, what a run of writes changes, and what holds after each write of a run.
-- Assumes nothing.
use Prim.Native.Nat.{ℕ, zero, suc}
use native.Mathlib.Nat.{suc_inj}
use mathlib.Core.Path.{◌≡◌, refl, sym, ap, ap₂, ◌∙◌}
use mathlib.Core.Bool.{cond}
use mathlib.Core.List.{List, [], ◌∷◌, ◌++◌, map}
use borrow.Author.Tests.{eq-eqb, ne_eqb}
use lib.Dec.{eqb}
use lib.ListN.{length, take}
use Rattle.scripts.specs.Scripts.{Pair, writes}
use Rattle.scripts.specs.Rules.{Outside}

abbrev pub Memory : Type 0
Memory = ℕ → ℕ

abbrev pub put : Memory → Pair → Memory
put m w q = cond (eqb q w.0) w.1 (m q)

abbrev pub puts : Memory → List Pair → Memory
puts m [] = m
puts m (w ∷ ws) = puts (put m w) ws

pub put_there : (m : Memory) (p b : ℕ) → put m (p, b) p ≡ b
put_there m p b = ap (λ t. cond t b (m p)) (eq-eqb p p refl)

pub put_elsewhere : (m : Memory) (p b q : ℕ) → (q ≡ p → ⊥) → put m (p, b) q ≡ m q
put_elsewhere m p b q n = ap (λ t. cond t b (m q)) (ne_eqb q p n)

pub puts_append : (xs ys : List Pair) (m : Memory) → puts m (xs ++ ys) ≡ puts (puts m xs) ys
puts_append [] ys m = refl
puts_append (x ∷ xs) ys m = puts_append xs ys (put m x)

-- no two of the positions are equal
abbrev pub Distinct : List ℕ → Type 0
Distinct [] = Unit {0}
Distinct (p ∷ ps) = Outside p ps × Distinct ps

-- each of the first positions is none of the second
abbrev pub Disjoint : List ℕ → List ℕ → Type 0
Disjoint [] qs = Unit {0}
Disjoint (p ∷ ps) qs = Outside p qs × Disjoint ps qs

-- a write elsewhere leaves what some registers hold
pub held_elsewhere : (m : Memory) (p b : ℕ) (qs : List ℕ) → Outside p qs → map (put m (p, b)) qs ≡ map m qs
held_elsewhere m p b [] a = refl
held_elsewhere m p b (q ∷ qs) a = ap₂ ◌∷◌ (put_elsewhere m p b q a.0) (held_elsewhere m p b qs a.1)

-- and so do writes elsewhere
pub puts_elsewhere : (ps bs : List ℕ) (m : Memory) (q : ℕ) → Outside q ps → puts m (writes ps bs) q ≡ m q
puts_elsewhere [] bs m q a = refl
puts_elsewhere (p ∷ ps) [] m q a = refl
puts_elsewhere (p ∷ ps) (b ∷ bs) m q a =
    puts_elsewhere ps bs (put m (p, b)) q a.1 ∙ put_elsewhere m p b q (λ e. a.0 (sym e))

pub all_elsewhere : (ps bs : List ℕ) (m : Memory) (qs : List ℕ) → Disjoint ps qs → map (puts m (writes ps bs)) qs ≡ map m qs
all_elsewhere [] bs m qs d = refl
all_elsewhere (p ∷ ps) [] m qs d = refl
all_elsewhere (p ∷ ps) (b ∷ bs) m qs d =
    all_elsewhere ps bs (put m (p, b)) qs d.1 ∙ held_elsewhere m p b qs d.0

-- a byte to each of some distinct registers: they hold these bytes
pub all_there : (ps bs : List ℕ) (m : Memory) → Distinct ps → length ps ≡ length bs → map (puts m (writes ps bs)) ps ≡ bs
all_there [] [] m d e = refl
all_there [] (b ∷ bs) m d e = cc
all_there (p ∷ ps) [] m d e = cc
all_there (p ∷ ps) (b ∷ bs) m d e =
    ap₂ ◌∷◌ (puts_elsewhere ps bs (put m (p, b)) p d.0 ∙ put_there m p b) (all_there ps bs (put m (p, b)) d.1 (suc_inj e))

-- P holds of m and after each further write
abbrev pub Always : (Memory → Type 0) → Memory → List Pair → Type 0
Always P m [] = P m
Always P m (w ∷ ws) = P m × Always P (put m w) ws

pub always_cut : (P : Memory → Type 0) (ws : List Pair) (m : Memory) → Always P m ws → (k : ℕ) → P (puts m (take k ws))
always_cut P [] m a zero = a
always_cut P [] m a (suc k) = a
always_cut P (w ∷ ws) m a zero = a.0
always_cut P (w ∷ ws) m a (suc k) = always_cut P ws (put m w) a.1 k

pub always_then : (P : Memory → Type 0) (xs ys : List Pair) (m : Memory) → Always P m xs → Always P (puts m xs) ys → Always P m (xs ++ ys)
always_then P [] ys m a b = b
always_then P (x ∷ xs) ys m a b = (a.0, always_then P xs ys (put m x) a.1 b)

-- what follows after each write of a run to some registers from P, and from what another register holds throughout
pub always_beside : (P Q : Memory → Type 0) (ps bs : List ℕ) (m : Memory) (q v : ℕ) → Outside q ps → m q ≡ v
    → ((n : Memory) → n q ≡ v → P n → Q n) → Always P m (writes ps bs) → Always Q m (writes ps bs)
always_beside P Q [] bs m q v a e f s = f m e s
always_beside P Q (p ∷ ps) [] m q v a e f s = f m e s
always_beside P Q (p ∷ ps) (b ∷ bs) m q v a e f s =
    (f m e s.0, always_beside P Q ps bs (put m (p, b)) q v a.1 (put_elsewhere m p b q (λ z. a.0 (sym z)) ∙ e) f s.1)

-- the same for what several registers hold throughout
pub always_beside_all : (P Q : Memory → Type 0) (ps bs : List ℕ) (m : Memory) (qs vs : List ℕ) → Disjoint ps qs → map m qs ≡ vs
    → ((n : Memory) → map n qs ≡ vs → P n → Q n) → Always P m (writes ps bs) → Always Q m (writes ps bs)
always_beside_all P Q [] bs m qs vs d e f s = f m e s
always_beside_all P Q (p ∷ ps) [] m qs vs d e f s = f m e s
always_beside_all P Q (p ∷ ps) (b ∷ bs) m qs vs d e f s =
    (f m e s.0, always_beside_all P Q ps bs (put m (p, b)) qs vs d.1 (held_elsewhere m p b qs d.0 ∙ e) f s.1)

-- each write goes elsewhere than to q
abbrev pub AllElsewhere : ℕ → List Pair → Type 0
AllElsewhere q [] = Unit {0}
AllElsewhere q (w ∷ ws) = (q ≡ w.0 → ⊥) × AllElsewhere q ws

pub elsewhere_writes : (q : ℕ) (ps bs : List ℕ) → Outside q ps → AllElsewhere q (writes ps bs)
elsewhere_writes q [] bs o = tt
elsewhere_writes q (p ∷ ps) [] o = tt
elsewhere_writes q (p ∷ ps) (b ∷ bs) o = (λ e. o.0 (sym e), elsewhere_writes q ps bs o.1)

pub elsewhere_append : (q : ℕ) (xs ys : List Pair) → AllElsewhere q xs → AllElsewhere q ys → AllElsewhere q (xs ++ ys)
elsewhere_append q [] ys h k = k
elsewhere_append q (x ∷ xs) ys h k = (h.0, elsewhere_append q xs ys h.1 k)

-- so that after any number of them q holds what it held
pub cut_elsewhere : (q : ℕ) (ws : List Pair) (m : Memory) → AllElsewhere q ws → (k : ℕ) → puts m (take k ws) q ≡ m q
cut_elsewhere q [] m h zero = refl
cut_elsewhere q [] m h (suc k) = refl
cut_elsewhere q (w ∷ ws) m h zero = refl
cut_elsewhere q (w ∷ ws) m h (suc k) = cut_elsewhere q ws (put m w) h.1 k ∙ put_elsewhere m w.0 w.1 q h.0
