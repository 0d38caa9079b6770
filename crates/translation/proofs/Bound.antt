-- No text is longer than 40,979 bytes, so that a buffer of that length takes the text of any input: a record's text is at most ten times as
-- long as the record, and what stands behind the last record adds at most 19 bytes to ten for each byte that is left.
-- Assumes nothing.
use Prim.Native.Nat.{ℕ, zero, suc, ◌+◌, ◌*◌, ◌≤◌, ◌<◌}
use native.Mathlib.Omega.{arith}
use mathlib.Core.Path.{◌≡◌, refl}
use mathlib.Core.Bool.{Bool, true, false, So, cond, ◌&&◌, and-eq-true_iff}
use mathlib.Core.List.{List, [], ◌∷◌, ◌++◌}
use borrow.Author.Tests.{ltb-true, ltb-false, eqb-true, eqb-false}
use lib.Dec.{eqb, ltb}
use lib.ListN.{length, drop, length-append, length-drop}
use Rattle.refusal.specs.Checks.{Check, first}
use Rattle.curves.specs.declared.Plan.{Plan}
use Rattle.records.specs.Records.{plan_in}
use Rattle.records.specs.Promises.{record_checks}
use Rattle.scripts.specs.Scripts.{script_for}
use Rattle.translation.specs.Text.{header_line, write_lines, refusal_in, used_in, plan_text, refused_line, end_line, too_long, text_from, text_of}
use Rattle.translation.proofs.Decimals.{one_digit, two_digits, three_digits}
use Rattle.translation.proofs.WriteLines.{lines_length}
use Rattle.translation.proofs.Accepted.{Accepted, accepted}

end_short : (plans : ℕ) → plans < 1000 → length (end_line plans) ≤ 8
unfolding end_line
end_short plans h = simp length-append (omega (arith, three_digits plans h))

refused_short : (number refusal : ℕ) → number < 1000 → refusal < 100 → length (refused_line number refusal) ≤ 20
unfolding refused_line
refused_short number refusal h l = simp length-append (omega (arith, three_digits number h, two_digits refusal l))

header_short : (number chip table writes : ℕ) → number < 1000 → chip < 10 → table < 100 → writes < 100
    → length (header_line number chip table writes) ≤ 35
header_short number chip table writes h c t w =
    simp length-append (omega (arith, three_digits number h, one_digit chip c, two_digits table t, two_digits writes w))

plan_short : (number : ℕ) (bytes : List ℕ) {used : ℕ} {plan : Plan} → number < 1000 → Accepted bytes used plan → length (plan_text number plan) ≤ 10 * used
unfolding plan_text
plan_short number bytes {used} {plan} h a =
    omega (
      arith,
      length-append (header_line number plan.chip plan.table (length (script_for plan))) (write_lines (script_for plan)),
      header_short number plan.chip plan.table (length (script_for plan)) h a.chip a.table (omega (arith, a.accepts.writes)),
      lines_length (script_for plan),
      a.short,
    )

-- the first of some checks whose numbers lie below a limit
abbrev pub below : ℕ → List Check → Bool
below limit [] = ltb 0 limit
below limit (c ∷ cs) = ltb c.1 limit && below limit cs

pub first_below : (limit : ℕ) (checks : List Check) → So (below limit checks) → first checks < limit
first_below limit [] t = ltb-true 0 limit t
first_below limit ((applies, number) ∷ checks) t = by_check applies (first_below limit checks both.1)
  where
    both : (ltb number limit ≡ true) × (below limit checks ≡ true)
    both = (and-eq-true_iff (ltb number limit) (below limit checks)).0 t

    by_check : (b : Bool) → first checks < limit → cond b number (first checks) < limit
    by_check true h = ltb-true number limit both.0
    by_check false h = h

refusal_short : (bytes : List ℕ) → refusal_in bytes < 100
unfolding refusal_in
refusal_short bytes = first_below 100 (record_checks bytes) refl

-- each plan used at least 9 bytes, so that its number has at most three digits
abbrev Short : ℕ → ℕ → List ℕ → Type 0
Short turns plans bytes = 9 * plans + length bytes ≤ 4096 → length (text_from turns plans bytes) ≤ 10 * length bytes + 19

pub text_from_short : (turns plans : ℕ) (bytes : List ℕ) → Short turns plans bytes
text_from_short zero plans bytes h = omega (arith, end_short plans (omega arith))
text_from_short (suc turns) plans bytes h =
    by_left (text_from_short turns (plans + 1) (drop (used_in bytes) bytes)) (eqb (length bytes) 0) refl
  where
    by_check : Short turns (plans + 1) (drop (used_in bytes) bytes) → 1 ≤ length bytes → (good : Bool) → eqb (refusal_in bytes) 0 ≡ good
        → length (cond good (plan_text (plans + 1) (plan_in bytes) ++ text_from turns (plans + 1) (drop (used_in bytes) bytes)) (refused_line (plans + 1) (refusal_in bytes)))
        ≤ 10 * length bytes + 19
    by_check go some true t =
        let a = accepted bytes (eqb-true (refusal_in bytes) 0 t) in
        let left = length-drop (used_in bytes) bytes in
        let more = go (omega (arith, a.whole, a.least)) in
        omega (
          arith,
          a.whole,
          length-append (plan_text (plans + 1) (plan_in bytes)) (text_from turns (plans + 1) (drop (used_in bytes) bytes)),
          plan_short (plans + 1) bytes (omega arith) a,
        )
    by_check go some false t = omega (arith, refused_short (plans + 1) (refusal_in bytes) (omega arith) (refusal_short bytes))

    by_left : Short turns (plans + 1) (drop (used_in bytes) bytes) → (none : Bool) → eqb (length bytes) 0 ≡ none
        → length (cond none (end_line plans) (cond (eqb (refusal_in bytes) 0) (plan_text (plans + 1) (plan_in bytes) ++ text_from turns (plans + 1) (drop (used_in bytes) bytes)) (refused_line (plans + 1) (refusal_in bytes))))
        ≤ 10 * length bytes + 19
    by_left go true t = omega (arith, end_short plans (omega arith))
    by_left go false t =
        let some : 1 ≤ length bytes = omega (arith, eqb-false (length bytes) 0 t) in
        by_check go some (eqb (refusal_in bytes) 0) refl

pub text_short : (input : List ℕ) → length (text_of input) ≤ 40979
unfolding text_of
text_short input = by_length (ltb 4096 (length input)) refl
  where
    by_length : (long : Bool) → ltb 4096 (length input) ≡ long → length (cond long too_long (text_from (length input) 0 input)) ≤ 40979
    by_length true t = omega arith
    by_length false t =
        let within : length input ≤ 4096 = ltb-false 4096 (length input) t in
        omega (arith, text_from_short (length input) 0 input (omega arith))
