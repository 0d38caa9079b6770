-- An accepted plan's script is never refused a buffer of 50 bytes, and its bytes show its pairs: so a header and those lines are the plan's text.
-- Assumes nothing.
use Rattle.std.specs.Prelude.{Result, Ok, Err}
use Prim.Native.Nat.{ℕ, zero, suc, ◌+◌, ◌*◌, ◌≤◌}
use native.Mathlib.Omega.{arith}
use mathlib.Core.Path.{◌≡◌, refl, sym, ap, ap₂, ◌∙◌}
use mathlib.Core.Bool.{cond}
use mathlib.Core.List.{List, [], ◌∷◌, ◌++◌}
use lib.Dec.{eqb}
use lib.ListN.{length, take, drop, length-append}
use Rattle.std.specs.Simd.{first_chunks}
use Rattle.refusal.specs.declared.Refusal.{Refusal}
use Rattle.refusal.specs.Answers.{tells_amount}
use Rattle.refusal.specs.Checks.{first}
use Rattle.refusal.proofs.Numbers.{not_accepted}
use Rattle.pages.specs.Sheets.{most_writes}
use Rattle.curves.specs.declared.Plan.{Plan}
use Rattle.scripts.specs.Scripts.{Pair, flat, script_for}
use Rattle.scripts.specs.Promises.{script_checks, Scripts}
use Rattle.scripts.proofs.Buffers.{refused_by_plan, count}
use Rattle.translation.specs.declared.output.Output.{Output}
use Rattle.translation.specs.Text.{header_line, write_lines, plan_text}
use Rattle.translation.specs.Parts.{InRange, Adds, Printable, writes_of}
use Rattle.translation.proofs.Adding.{adds_then, adds_as}

-- a script's bytes, two by two, are its pairs
pairs_back : (ps : List Pair) (rest : List ℕ) (k : ℕ) → length ps ≤ k → writes_of (take (length ps) (first_chunks 2 k (flat ps ++ rest))) ≡ ps
pairs_back [] rest k h = refl
pairs_back (p ∷ ps) rest zero h = absurd (omega arith)
pairs_back (p ∷ ps) rest (suc k) h = ap (λ (l : List Pair). p ∷ l) (pairs_back ps rest k (omega arith))

module _ {plan : Plan} {old bytes : List ℕ} {r : Result ℕ Refusal} (a : Printable plan) (room : length old ≡ 2 * most_writes) (s : Scripts plan old r bytes) where
  pub never_refused : (q : Refusal) → r ≡ Err q → ⊥
  never_refused q e = not_accepted q (sym (refused_by_plan (λ _. a.writes) room s q e ∙ a.checks))

  module _ (n : ℕ) (e : r ≡ Ok n) where
    writes : n ≡ length (script_for plan)
    writes = count (λ _. a.writes) room s n e

    pub few : n ≤ most_writes
    few = omega (arith, writes, a.writes)

    module _ {chunks : List (List ℕ)} {k : ℕ} (enough : most_writes ≤ k) (halves : chunks ≡ first_chunks 2 k bytes) where
      script : writes_of (take n chunks) ≡ script_for plan
      script =
          let accepted : first (script_checks plan old) ≡ 0 = sym (ap (λ (t : ℕ × ℕ). t.0) (sym (ap tells_amount e) ∙ s.answer)) in
          let rest : List ℕ = drop (2 * length (script_for plan)) old in
          let written : bytes ≡ flat (script_for plan) ++ rest =
          s.bytes ∙ ap (λ (m : ℕ). cond (eqb m 0) (flat (script_for plan) ++ rest) old) accepted in
          ap₂ (λ (m : ℕ) (l : List (List ℕ)). writes_of (take m l)) writes (halves ∙ ap (first_chunks 2 k) written)
          ∙ pairs_back (script_for plan) rest k (omega (arith, a.writes))

      -- a header and those lines are the plan's text
      whole : (number : ℕ) → header_line number plan.chip plan.table n ++ write_lines (writes_of (take n chunks)) ≡ plan_text number plan
      unfolding plan_text
      whole number = ap₂ (λ (m : ℕ) (ws : List Pair). header_line number plan.chip plan.table m ++ write_lines ws) writes script

      long : (number : ℕ) → length (plan_text number plan)
          ≡ length (header_line number plan.chip plan.table n) + length (write_lines (writes_of (take n chunks)))
      long number =
          sym (ap length (whole number)) ∙ length-append (header_line number plan.chip plan.table n) (write_lines (writes_of (take n chunks)))

      pub header_within : (number : ℕ) (before : Output) → InRange (plan_text number plan) before
          → InRange (header_line number plan.chip plan.table n) before
      header_within number before w = omega (arith, w, long number)

      pub writes_within : (number : ℕ) {before mid : Output} → InRange (plan_text number plan) before
          → Adds (header_line number plan.chip plan.table n) before mid → InRange (write_lines (writes_of (take n chunks))) mid
      writes_within number w h = omega (arith, w, long number, h.next)

      pub plan_added : (number : ℕ) {before mid after : Output} → Adds (header_line number plan.chip plan.table n) before mid
          → Adds (write_lines (writes_of (take n chunks))) mid after → Adds (plan_text number plan) before after
      plan_added number h l = adds_as (whole number) (adds_then h l)
