-- What a caller knows who asked for a script into a buffer that holds each: only the plan can be refused there, and the bytes give back the script's pairs.
-- Assumes nothing.
use Rattle.std.specs.Prelude.{Result, Ok, Err}
use Prim.Native.Nat.{ℕ, zero, suc, ◌+◌, ◌*◌, ◌≤◌, ◌<◌}
use native.Mathlib.Nat.{le_of_suc-le-suc, not-suc-le-zero}
use native.Mathlib.Omega.{arith}
use mathlib.Core.Path.{◌≡◌, refl, sym, ap, ap₂, ◌∙◌}
use mathlib.Core.Bool.{cond}
use mathlib.Core.List.{List, [], ◌∷◌, ◌++◌}
use borrow.Author.Tests.{le-ltb}
use lib.Dec.{eqb}
use lib.ListN.{length, get_or, take, drop}
use lib.Seq.{take-suc}
use Rattle.refusal.specs.declared.Refusal.{Refusal}
use Rattle.refusal.specs.Refusals.{number_of}
use Rattle.refusal.specs.Checks.{first, room_checks}
use Rattle.refusal.proofs.Passed.{told_passed}
use Rattle.refusal.specs.Answers.{tells_amount}
use Rattle.pages.specs.Sheets.{most_writes}
use Rattle.curves.specs.declared.Plan.{Plan}
use Rattle.plans.specs.Promises.{plan_checks}
use Rattle.scripts.specs.Scripts.{Pair, flat, pairs_in, script_for}
use Rattle.scripts.specs.Promises.{script_checks, Scripts}
use Rattle.scripts.proofs.Answers.{first_alone}

-- a script's bytes hold its pairs
flat_at : (ps : List Pair) (rest : List ℕ) (k : ℕ) → k < length ps
    → (get_or (flat ps ++ rest) (2 * k) 0, get_or (flat ps ++ rest) (2 * k + 1) 0) ≡ get_or ps k (0, 0)
flat_at [] rest k h = absurd (not-suc-le-zero h)
flat_at (p ∷ ps) rest zero h = refl
flat_at (p ∷ ps) rest (suc k) h =
    let address : 2 * suc k ≡ suc (suc (2 * k)) = omega arith in
    let byte : 2 * suc k + 1 ≡ suc (suc (2 * k + 1)) = omega arith in
    ap₂ (λ (m n : ℕ). (get_or (flat (p ∷ ps) ++ rest) m 0, get_or (flat (p ∷ ps) ++ rest) n 0)) address byte
    ∙ flat_at ps rest k (le_of_suc-le-suc h)

pairs_flat : (ps : List Pair) (rest : List ℕ) (n : ℕ) → n ≤ length ps → pairs_in n (flat ps ++ rest) ≡ take n ps
pairs_flat ps rest zero h = refl
pairs_flat ps rest (suc n) h =
    ap₂ (λ (l : List Pair) (w : Pair). l ++ (w ∷ [])) (pairs_flat ps rest n (omega arith)) (flat_at ps rest n h)
    ∙ sym (take-suc ps n (0, 0) h)

module _ {plan : Plan} {old bytes : List ℕ} {r : Result ℕ Refusal} (short : first (plan_checks plan) ≡ 0 → length (script_for plan) ≤ most_writes) (room : length old ≡ 2 * most_writes)
    (s : Scripts plan old r bytes) where
  judged : first (script_checks plan old) ≡ first (plan_checks plan)
  judged =
      first_alone (plan_checks plan) (room_checks (2 * length (script_for plan)) old) refl
      (λ e. rw (le-ltb (length old) (2 * length (script_for plan)) (omega (arith, short e))))

  pub refused_by_plan : (q : Refusal) → r ≡ Err q → number_of q ≡ first (plan_checks plan)
  refused_by_plan q e = ap (λ (t : ℕ × ℕ). t.0) (sym (ap tells_amount e) ∙ s.answer) ∙ judged

  module _ (n : ℕ) (e : r ≡ Ok n) where
    pub accepted_plan : first (plan_checks plan) ≡ 0
    accepted_plan = sym (ap (λ (t : ℕ × ℕ). t.0) (sym (ap tells_amount e) ∙ s.answer) ∙ judged)

    none : first (script_checks plan old) ≡ 0
    none = judged ∙ accepted_plan

    pub count : n ≡ length (script_for plan)
    count = ap (λ (t : ℕ × ℕ). t.1) (sym (ap tells_amount e) ∙ s.answer ∙ sym (told_passed (script_checks plan old) (length (script_for plan)) none))

    pub first_pairs : (k : ℕ) → k ≤ n → pairs_in k bytes ≡ take k (script_for plan)
    first_pairs k h =
        ap (pairs_in k)
        (s.bytes ∙ ap (λ (m : ℕ). cond (eqb m 0) (flat (script_for plan) ++ drop (2 * length (script_for plan)) old) old) none)
        ∙ pairs_flat (script_for plan) (drop (2 * length (script_for plan)) old) k (omega (arith, count))
