-- What each answer of `script` knows is what its contract asks: the plan is refused, or the pairs are put where there is room; and so of `make`.
-- Assumes nothing.
use Rattle.std.specs.Prelude.{Result, Err}
use Prim.Native.Nat.{ℕ, zero, suc, ◌*◌, ◌≤◌, min}
use native.Mathlib.Nat.{min-eq_left, min-eq_right, min-le_right}
use native.Mathlib.Omega.{arith}
use mathlib.Core.Path.{◌≡◌, refl, sym, ap, ap₂, ◌∙◌}
use mathlib.Core.Bool.{Bool, true, false, So, cond}
use mathlib.Core.List.{List, ◌++◌, map}
use borrow.Author.Tests.{leb-true, leb-false}
use lib.Dec.{eqb, leb}
use lib.ListN.{length, take, drop, length-map}
use lib.Seq.{take_all}
use Rattle.refusal.specs.declared.Refusal.{Refusal}
use Rattle.refusal.specs.Refusals.{number_of}
use Rattle.refusal.specs.Checks.{Check, first, left, room_checks}
use Rattle.refusal.proofs.Numbers.{number_of_positive}
use Rattle.refusal.proofs.Passed.{numbered, first_passed, first_refused, when_refused, told_refused}
use Rattle.pages.specs.declared.Chip.{Chip}
use Rattle.curves.specs.declared.Plan.{Plan}
use Rattle.curves.specs.Values.{Sized}
use Rattle.plans.specs.Promises.{plan_checks}
use Rattle.scripts.specs.declared.making.Cursor.{Cursor}
use Rattle.scripts.specs.declared.making.Load.{Load}
use Rattle.scripts.specs.declared.making.Write.{Write}
use Rattle.scripts.specs.Scripts.{Pair, placements, routed, addressed, bus, flat, script_of, script_for}
use Rattle.scripts.specs.Played.{laid}
use Rattle.scripts.specs.Promises.{script_checks, Scripts, Makes}
use Rattle.scripts.specs.Making.{writes_of, start, coming, pair_of, sent, made_of, load_of, loaded_bytes, PutsPairs}
use Rattle.scripts.proofs.Prepared.{load_writes, load_makes}

-- a refusal by the first checks is one by all of them
pub still_refused : (r : Refusal) (checks more : List Check) → number_of r ≡ first checks → number_of r ≡ first (checks ++ more)
still_refused r checks more e = e ∙ sym (first_refused checks more (omega (arith, number_of_positive r)))

-- where no further check applies to what passes the first ones, the first ones alone count
pub first_alone : (checks more : List Check) → So (numbered checks) → (first checks ≡ 0 → first more ≡ 0) → first (checks ++ more) ≡ first checks
first_alone checks more t h = by_number (first checks) refl
  where
    by_number : (n : ℕ) → first checks ≡ n → first (checks ++ more) ≡ first checks
    by_number zero e = first_passed checks more t e ∙ h e ∙ sym e
    by_number (suc n) e = first_refused checks more (omega arith)

module _ (plan : Plan) (out : List ℕ) where
  abbrev pairs : List Pair
  pairs = script_for plan

  pub script_refused : (r : Refusal) → number_of r ≡ first (plan_checks plan) → Scripts plan out (Err r) out
  script_refused r e =
      let all = still_refused r (plan_checks plan) (room_checks (2 * length pairs) out) e in
      record { answer = told_refused r (script_checks plan out) (length pairs) all; bytes = when_refused r _ out all }

  pub script_put : {ws : List Write} {new : List ℕ} {r : Result ℕ Refusal} → first (plan_checks plan) ≡ 0
      → map addressed (map pair_of ws) ≡ pairs
      → PutsPairs ws out r new
      → Scripts plan out r new
  script_put {ws} {new} {r} e whole p =
      let writes : length ws ≡ length pairs = sym (length-map ws pair_of) ∙ sym (length-map (map pair_of ws) addressed) ∙ ap length whole in
      let checks : first (room_checks (2 * length ws) out) ≡ first (script_checks plan out) =
      ap (λ (n : ℕ). first (room_checks (2 * n) out)) writes ∙ sym (first_passed (plan_checks plan) (room_checks (2 * length pairs) out) refl e) in
      record {
        answer = p.answer ∙ ap₂ (λ (n w : ℕ). (n, cond (eqb n 0) w 0)) checks writes;
        bytes =
            p.pairs
            ∙ ap₂ (λ (n w : ℕ). cond (eqb n 0) (sent ws ++ drop (2 * w) out) out) checks writes
            ∙ ap (λ (us : List Pair). left (script_checks plan out) (flat us ++ drop (2 * length pairs) out) out) whole;
      }

-- the first of as many as there are
take_least : (count : ℕ) (ws : List Pair) → take (min count (length ws)) ws ≡ take count ws
take_least count ws = by_size (leb count (length ws)) refl
  where
    by_size : (t : Bool) → leb count (length ws) ≡ t → take (min count (length ws)) ws ≡ take count ws
    by_size true e = ap (λ (n : ℕ). take n ws) (min-eq_left (leb-true count (length ws) e))
    by_size false e =
        let past : length ws ≤ count = omega (arith, leb-false count (length ws) e) in
        ap (λ (n : ℕ). take n ws) (min-eq_right past) ∙ take_all (length ws) ws (omega arith) ∙ sym (take_all count ws past)

-- equal loads, bodies, cursors and numbers of turns have the same writes
pub same_writes : {l m : Load} {b d : List ℕ} {c e : Cursor} {n k : ℕ} → l ≡ m → b ≡ d → c ≡ e → n ≡ k → coming l b c n ≡ coming m d e k
same_writes p q r s = λ i. coming (p i) (q i) (r i) (s i)

-- as many writes as are asked for, or all
pub made_script : (chip : Chip) (plan : Plan) (count : ℕ) {n : ℕ} {old new : List ℕ} → Sized plan → n ≡ min count (writes_of (load_of chip plan))
    → new ≡ made_of (coming (load_of chip plan) (loaded_bytes chip plan) start n) old → Makes chip plan count old n new
unfolding bus
made_script chip plan count {n} {old} sized q m =
    let ws = routed chip (placements chip plan) in
    let all : n ≡ min count (length (script_of chip plan)) = q ∙ ap (min count) (load_writes chip plan sized) in
    let some : n ≤ writes_of (load_of chip plan) = rw q (min-le_right count (writes_of (load_of chip plan))) in
    record {
      answer = all;
      bytes =
          m
          ∙ load_makes chip plan sized n some old
          ∙ ap (λ (k : ℕ). laid chip (take k ws) old) (all ∙ ap (min count) (length-map ws addressed))
          ∙ ap (λ (us : List Pair). laid chip us old) (take_least count ws);
    }
