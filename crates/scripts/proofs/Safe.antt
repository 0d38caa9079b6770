-- Raise, move, settle: a script cut anywhere, and played again any number of times, never asks slower than the slower of the first curve and the
-- plan; played to its end it leaves the plan. Stated once, over registers as a memory, for every rule and any number of points.
-- Assumes nothing.
use Prim.Native.Nat.{ℕ}
use mathlib.Core.Path.{◌≡◌, refl, sym, ap, ap₂, subst, ◌∙◌}
use mathlib.Core.Bool.{Bool, true, false, cond}
use mathlib.Core.List.{List, [], ◌∷◌, ◌++◌, map}
use lib.Dec.{eqb}
use lib.ListN.{length, take, replicate, length-replicate}
use Rattle.pages.specs.Rows.{Table}
use Rattle.curves.specs.Orders.{Each, fulls}
use Rattle.curves.specs.Planned.{Curve}
use Rattle.scripts.specs.Scripts.{Pair, writes, script}
use Rattle.scripts.specs.Rules.{Outside, Rule}
use Rattle.scripts.proofs.Memory.{Memory, put, puts, put_there, puts_append, Distinct, Disjoint, held_elsewhere, all_elsewhere, all_there, Always, always_cut, always_then, always_beside, always_beside_all}

-- what a table's registers hold
abbrev pub curve_in : Table → Memory → Curve
curve_in table m = record { settings = map m table.settings; speeds = map m table.speeds }

-- what a rule asks of a curve
abbrev pub asked : Rule → Curve → ℕ → ℕ
asked rule curve t = rule.asks curve.settings curve.speeds t

-- plays of one script, each cut after some number of writes
abbrev pub plays : List Pair → Memory → List ℕ → Memory
plays ws m [] = m
plays ws m (k ∷ ks) = plays ws (puts m (take k ws)) ks

-- the registers of a table stand apart
pub record Apart (table : Table) : Type 0 where
  pub settings : Distinct table.settings
  pub speeds : Distinct table.speeds
  pub between : Disjoint table.settings table.speeds
  pub across : Disjoint table.speeds table.settings

-- a plan fills a table, and neither the plan nor the first curve has a speed byte that is faster than full
pub record Fits (rule : Rule) (table : Table) (first : Memory) (plan : Curve) : Type 0 where
  pub settings : length table.settings ≡ length plan.settings
  pub speeds : length table.speeds ≡ length plan.speeds
  pub first_full : Each rule.Fast (fulls rule.full (map first table.speeds)) (map first table.speeds)
  pub plan_full : Each rule.Fast (fulls rule.full plan.speeds) plan.speeds

module _ (rule : Rule) (table : Table) (first : Memory) (plan : Curve) where
  -- where a played script may stand: the settings of the first curve and speeds at least as fast as its own; all speeds full; the settings of the
  -- plan and speeds at least as fast as its own
  pub data Safe (m : Memory) : Type 0 where
    early : map m table.settings ≡ map first table.settings → Each rule.Fast (map m table.speeds) (map first table.speeds) → Safe m
    raised : Each rule.Fast (map m table.speeds) (fulls rule.full plan.speeds) → Safe m
    late : map m table.settings ≡ plan.settings → Each rule.Fast (map m table.speeds) plan.speeds → Safe m

module _ (rule : Rule) where
  each_same : (xs : List ℕ) → Each rule.Fast xs xs
  each_same [] = tt
  each_same (x ∷ xs) = (rule.same x, each_same xs)

  -- one more register at full, wherever it is
  each_raised : (m : Memory) (p : ℕ) (qs ws : List ℕ) → Each rule.Fast (fulls rule.full ws) ws → Each rule.Fast (map m qs) ws
      → Each rule.Fast (map (put m (p, rule.full)) qs) ws
  each_raised m p [] [] f e = tt
  each_raised m p [] (w ∷ ws) f e = absurd e
  each_raised m p (q ∷ qs) [] f e = absurd e
  each_raised m p (q ∷ qs) (w ∷ ws) f e = (one (eqb q p), each_raised m p qs ws f.1 e.1)
    where
      one : (there : Bool) → rule.Fast (cond there rule.full (m q)) w
      one true = f.0
      one false = e.0

  -- each register to its planned byte: at every cut the speeds are at least as fast as planned
  settles : (ps bs : List ℕ) (m : Memory) → Distinct ps → Each rule.Fast (map m ps) bs
      → Always (λ n. Each rule.Fast (map n ps) bs) m (writes ps bs)
  settles [] [] m d e = tt
  settles [] (b ∷ bs) m d e = absurd e
  settles (p ∷ ps) [] m d e = absurd e
  settles (p ∷ ps) (b ∷ bs) m d e = (
    e,
    always_beside (λ n. Each rule.Fast (map n ps) bs) (λ n. Each rule.Fast (map n (p ∷ ps)) (b ∷ bs)) ps bs (put m (p, b)) p b d.0 (put_there m p b)
        (λ n h s. (subst (λ (x : ℕ). rule.Fast x b) (sym h) (rule.same b), s))
        (settles ps bs (put m (p, b)) d.1 (subst (λ (l : List ℕ). Each rule.Fast l bs) (sym (held_elsewhere m p b ps d.0)) e.1)),
  )

  -- a register that is full stays full while others are raised
  stays_full : (ps : List ℕ) (m : Memory) (q : ℕ) → m q ≡ rule.full → puts m (writes ps (fulls rule.full ps)) q ≡ rule.full
  stays_full [] m q e = e
  stays_full (p ∷ ps) m q e = stays_full ps (put m (p, rule.full)) q (one (eqb q p))
    where
      one : (there : Bool) → cond there rule.full (m q) ≡ rule.full
      one true = refl
      one false = e

  -- after the raise every speed is full
  all_raised : (ps : List ℕ) (m : Memory) → map (puts m (writes ps (fulls rule.full ps))) ps ≡ fulls rule.full ps
  all_raised [] m = refl
  all_raised (p ∷ ps) m =
      ap₂ ◌∷◌ (stays_full ps (put m (p, rule.full)) p (put_there m p rule.full)) (all_raised ps (put m (p, rule.full)))

module _ (rule : Rule) (table : Table) (first : Memory) (plan : Curve) (apart : Apart table) (fits : Fits rule table first plan) where
  abbrev raises : List Pair
  raises = writes table.speeds (fulls rule.full table.speeds)

  abbrev moves : List Pair
  moves = writes table.settings plan.settings

  -- as many full bytes, whether counted by the table or by the plan
  counted : fulls rule.full table.speeds ≡ fulls rule.full plan.speeds
  counted = ap (λ (n : ℕ). replicate n rule.full) fits.speeds

  fulls_full : Each rule.Fast (fulls rule.full (fulls rule.full plan.speeds)) (fulls rule.full plan.speeds)
  fulls_full = rw length-replicate (each_same rule (fulls rule.full plan.speeds))

  pub safe_first : Safe rule table first plan first
  safe_first = early refl (each_same rule (map first table.speeds))

  -- raising a speed keeps each of the three
  safe_raise : (m : Memory) (p : ℕ) → Outside p table.settings → Safe rule table first plan m → Safe rule table first plan (put m (p, rule.full))
  safe_raise m p a (early e f) =
      early (held_elsewhere m p rule.full table.settings a ∙ e) (each_raised rule m p table.speeds (map first table.speeds) fits.first_full f)
  safe_raise m p a (raised f) = raised (each_raised rule m p table.speeds (fulls rule.full plan.speeds) fulls_full f)
  safe_raise m p a (late e f) =
      late (held_elsewhere m p rule.full table.settings a ∙ e) (each_raised rule m p table.speeds plan.speeds fits.plan_full f)

  raise_phase : (ps : List ℕ) (m : Memory) → Disjoint ps table.settings → Safe rule table first plan m
      → Always (Safe rule table first plan) m (writes ps (fulls rule.full ps))
  raise_phase [] m d s = s
  raise_phase (p ∷ ps) m d s = (s, raise_phase ps (put m (p, rule.full)) d.1 (safe_raise m p d.0 s))

  -- with all speeds full the settings move freely
  move_phase : (ps bs : List ℕ) (m : Memory) → Disjoint ps table.speeds → Each rule.Fast (map m table.speeds) (fulls rule.full plan.speeds)
      → Always (Safe rule table first plan) m (writes ps bs)
  move_phase [] bs m d f = raised f
  move_phase (p ∷ ps) [] m d f = raised f
  move_phase (p ∷ ps) (b ∷ bs) m d f = (
    raised f,
    move_phase ps bs (put m (p, b)) d.1
        (subst (λ (l : List ℕ). Each rule.Fast l (fulls rule.full plan.speeds)) (sym (held_elsewhere m p b table.speeds d.0)) f),
  )

  -- with the settings as planned each speed goes to its planned byte
  settle_phase : (m : Memory) → map m table.settings ≡ plan.settings → Each rule.Fast (map m table.speeds) plan.speeds
      → Always (Safe rule table first plan) m (writes table.speeds plan.speeds)
  settle_phase m e f =
      always_beside_all (λ n. Each rule.Fast (map n table.speeds) plan.speeds) (Safe rule table first plan) table.speeds plan.speeds m
      table.settings plan.settings apart.across e (λ n h s. late h s)
      (settles rule table.speeds plan.speeds m apart.speeds f)

  -- what the registers hold between the phases
  after_raise : (m : Memory) → map (puts m raises) table.speeds ≡ fulls rule.full plan.speeds
  after_raise m = all_raised rule table.speeds m ∙ counted

  moved : (m : Memory) → map (puts (puts m raises) moves) table.settings ≡ plan.settings
  moved m = all_there table.settings plan.settings (puts m raises) apart.settings fits.settings

  still_full : (m : Memory) → map (puts (puts m raises) moves) table.speeds ≡ fulls rule.full plan.speeds
  still_full m = all_elsewhere table.settings plan.settings (puts m raises) table.speeds apart.between ∙ after_raise m

  pub play_safe : (m : Memory) → Safe rule table first plan m → Always (Safe rule table first plan) m (script rule.full table plan)
  play_safe m s =
      always_then (Safe rule table first plan) raises (moves ++ writes table.speeds plan.speeds) m (raise_phase table.speeds m apart.across s)
      (always_then (Safe rule table first plan) moves (writes table.speeds plan.speeds) (puts m raises)
      (move_phase table.settings plan.settings (puts m raises) apart.between
      (subst (λ (l : List ℕ). Each rule.Fast l (fulls rule.full plan.speeds)) (sym (after_raise m)) (each_same rule (fulls rule.full plan.speeds))))
      (settle_phase (puts (puts m raises) moves) (moved m)
      (subst (λ (l : List ℕ). Each rule.Fast l plan.speeds) (sym (still_full m)) fits.plan_full)))

  plays_safe : (ks : List ℕ) (m : Memory) → Safe rule table first plan m → Safe rule table first plan (plays (script rule.full table plan) m ks)
  plays_safe [] m s = s
  plays_safe (k ∷ ks) m s =
      plays_safe ks (puts m (take k (script rule.full table plan)))
      (always_cut (Safe rule table first plan) (script rule.full table plan) m (play_safe m s) k)

  -- what a safe table asks
  safe_asks : (m : Memory) (t : ℕ) → Safe rule table first plan m
      → rule.Fast (asked rule (curve_in table m) t) (rule.slower (asked rule (curve_in table first) t) (asked rule plan t))
  safe_asks m t (early e f) =
      rule.joined _ _ _ (rw e (rule.rises (map first table.settings) (map m table.speeds) (map first table.speeds) t f))
      (rule.left (asked rule (curve_in table first) t) (asked rule plan t))
  safe_asks m t (raised f) =
      rule.joined _ _ _ (rule.rises (map m table.settings) (map m table.speeds) (fulls rule.full plan.speeds) t f)
      (rule.joined _ _ _ (rule.tops (map m table.settings) plan.settings plan.speeds t fits.plan_full)
      (rule.right (asked rule (curve_in table first) t) (asked rule plan t)))
  safe_asks m t (late e f) =
      rule.joined _ _ _ (rw e (rule.rises plan.settings (map m table.speeds) plan.speeds t f))
      (rule.right (asked rule (curve_in table first) t) (asked rule plan t))

  -- cut after any number of writes, any number of times: never slower than the slower of the first curve and the plan
  pub never_slower : (cuts : List ℕ) (t : ℕ)
      → rule.Fast (asked rule (curve_in table (plays (script rule.full table plan) first cuts)) t)
      (rule.slower (asked rule (curve_in table first) t) (asked rule plan t))
  never_slower cuts t = safe_asks (plays (script rule.full table plan) first cuts) t (plays_safe cuts first safe_first)

  -- played to its end, from whatever the registers held, the table holds the plan
  pub ends_planned : (m : Memory) → curve_in table (puts m (script rule.full table plan)) ≡ plan
  ends_planned m =
      let settled = writes table.speeds plan.speeds in
      let whole : puts m (script rule.full table plan) ≡ puts (puts (puts m raises) moves) settled =
      puts_append raises (moves ++ settled) m ∙ puts_append moves settled (puts m raises) in
      let s : map (puts (puts (puts m raises) moves) settled) table.settings ≡ plan.settings =
      all_elsewhere table.speeds plan.speeds (puts (puts m raises) moves) table.settings apart.across ∙ moved m in
      let v : map (puts (puts (puts m raises) moves) settled) table.speeds ≡ plan.speeds =
      all_there table.speeds plan.speeds (puts (puts m raises) moves) apart.speeds fits.speeds in
      ap (curve_in table) whole ∙ λ i. record { settings = s i; speeds = v i }
