-- The rules of both shapes are such as demand 3 asks for: more duty is faster and the greatest duty is full, a smaller count is faster and 00h is full.
-- Assumes nothing.
use Prim.Native.Nat.{ℕ, suc, ◌≤◌, min, max, zero-le}
use native.Mathlib.Nat.{le_refl, le_trans, min-le_left, min-le_right, le-max_left, le-max_right}
use mathlib.Core.Path.{◌≡◌, refl, sym, ap, subst}
use mathlib.Core.List.{List, [], ◌∷◌, map}
use lib.ListN.{length, get_or, take, replicate}
use Rattle.pages.specs.declared.Shape.{Shape}
use Rattle.pages.specs.declared.Shape.TheVariants.{Slope, Steps}
use Rattle.curves.specs.Curves.{degree}
use Rattle.curves.specs.Orders.{Each, fulls, MoreDuty, LessCount}
use Rattle.curves.specs.Planned.{Curve, asks, asked_duty}
use Rattle.curves.proofs.SlopeLaws.{slope_faster, slope_full, slope_at_most}
use Rattle.curves.proofs.StepLaws.{steps_faster, steps_full}
use Rattle.scripts.specs.Rules.{Rule}

abbrev curve : List ℕ → List ℕ → Curve
curve settings speeds = record { settings = settings; speeds = speeds }

-- lists whose entries are related one by one are of one length
pub each_long : (R : ℕ → ℕ → Type 0) (v w : List ℕ) → Each R v w → length v ≡ length w
each_long R [] [] e = refl
each_long R [] (y ∷ w) e = absurd e
each_long R (x ∷ v) [] e = absurd e
each_long R (x ∷ v) (y ∷ w) e = ap suc (each_long R v w e.1)

-- the slope rule, whose greatest duty is full, over as many points as there are duties
abbrev pub slope_rule : ℕ → Rule
slope_rule full =
    record {
      full = full;
      Fast = MoreDuty;
      slower = min;
      asks = λ settings speeds t. asked_duty full (length speeds) (curve settings speeds) t;
      same = le_refl;
      joined = λ a b c p q. le_trans q p;
      left = min-le_left;
      right = min-le_right;
      rises = λ s v w t e.
          subst (λ (n : ℕ). asked_duty full (length w) (curve s w) t ≤ asked_duty full n (curve s v) t) (sym (each_long MoreDuty v w e))
          (slope_faster full (map degree (take (length w) s)) v w (degree (get_or s (length w) 0)) (degree t) e);
      tops = λ s o w t e.
          subst (λ (x : ℕ). asked_duty full (length w) (curve o w) t ≤ x)
          (sym (slope_full full (map degree (take (length (fulls full w)) s)) (length w) (degree (get_or s (length (fulls full w)) 0)) (degree t)))
          (slope_at_most full (map degree (take (length w) o)) w (degree (get_or o (length w) 0)) (degree t) e);
    }

-- a rule by which a smaller count is faster, from what it asks where every count byte is at most another's, and where every count byte is 0
abbrev count_rule : (counts : List ℕ → List ℕ → ℕ → ℕ)
    → ((s v w : List ℕ) (t : ℕ) → Each LessCount v w → counts s v t ≤ counts s w t)
    → ((s : List ℕ) (n t : ℕ) → counts s (replicate n 0) t ≡ 0)
    → Rule
count_rule counts rises zeros =
    record {
      full = 0;
      Fast = LessCount;
      slower = max;
      asks = counts;
      same = le_refl;
      joined = λ a b c p q. le_trans p q;
      left = le-max_left;
      right = le-max_right;
      rises = rises;
      tops = λ s o w t e. subst (λ (x : ℕ). x ≤ counts o w t) (sym (zeros s (length w) t)) zero-le;
    }

-- the rule of a shape
abbrev pub rule_of : Shape → Rule
rule_of (Slope points full) = slope_rule full
rule_of Steps = count_rule (λ s v t. asks Steps (curve s v) t) steps_faster steps_full
