-- The walk over the records: the text made so far and the text of the bytes left are together the text of the input.
-- Assumes nothing.
use Rattle.std.specs.Prelude.{Ok, Err}
use Prim.Native.Nat.{ℕ, ◌+◌, ◌*◌, ◌≤◌, ◌<◌}
use native.Mathlib.Omega.{arith}
use mathlib.Core.Path.{◌≡◌, sym, ap, subst, ◌∙◌}
use mathlib.Core.Bool.{true, false, cond}
use mathlib.Core.List.{List, [], ◌++◌, append-nil, append_assoc}
use borrow.Author.Tests.{eqb-true, eqb-false}
use lib.Dec.{eqb}
use lib.ListN.{length, drop, length-append, length-drop}
use Rattle.refusal.specs.declared.Refusal.{Refusal}
use Rattle.refusal.specs.Refusals.{number_of}
use Rattle.refusal.proofs.Numbers.{number_of_positive}
use Rattle.refusal.specs.Answers.{tells_amount}
use Rattle.curves.specs.declared.Plan.{Plan}
use Rattle.records.specs.declared.Found.{Found}
use Rattle.records.specs.Records.{plan_in, no_plan}
use Rattle.records.specs.Promises.{ReadsRecord}
use Rattle.translation.specs.declared.output.Output.{Output}
use Rattle.translation.specs.Text.{refusal_in, used_in, plan_text, refused_line, end_line}
use Rattle.translation.specs.Parts.{InRange, Adds, Printable}
use Rattle.translation.proofs.Adding.{adds_then, adds_as}
use Rattle.translation.proofs.Accepted.{Accepted, accepted}
use Rattle.translation.proofs.Turns.{text_left, ends, refuses, goes_on}
use Rattle.translation.proofs.Bound.{text_from_short}

-- what the reader answers of the bytes left
read_refused : {bytes : List ℕ} {found : Found} (q : Refusal) → ReadsRecord bytes found → found.answer ≡ Err q → number_of q ≡ refusal_in bytes
unfolding refusal_in
read_refused q r e = ap (λ (t : ℕ × ℕ). t.0) (sym (ap tells_amount e) ∙ r.answer)

module _ {bytes : List ℕ} {found : Found} (n : ℕ) (r : ReadsRecord bytes found) (e : found.answer ≡ Ok n) where
  read_accepted : refusal_in bytes ≡ 0
  unfolding refusal_in
  read_accepted = sym (ap (λ (t : ℕ × ℕ). t.0) (sym (ap tells_amount e) ∙ r.answer))

  read_used : n ≡ used_in bytes
  unfolding refusal_in used_in
  read_used =
      ap (λ (t : ℕ × ℕ). t.1) (sym (ap tells_amount e) ∙ r.answer)
      ∙ ap (λ (k : ℕ). cond (eqb k 0) (used_in bytes) 0) read_accepted

  read_plan : found.plan ≡ plan_in bytes
  unfolding refusal_in
  read_plan = r.plan ∙ ap (λ (k : ℕ). cond (eqb k 0) (plan_in bytes) no_plan) read_accepted

pub record Walked (input left : List ℕ) (before after : Output) (plans : ℕ) : Type 0 where
  pub made : List ℕ
  pub adds : Adds made before after
  pub text : made ++ text_left plans left ≡ text_left 0 input
  pub few : 9 * plans + length left ≤ length input

module _ {input left : List ℕ} {before after : Output} {plans : ℕ} (short : length input ≤ 4096) (empty : before.length ≡ 0) (w : Walked input left before after plans) where
  -- there is room for whatever the text goes on with
  room : (front back : List ℕ) → text_left plans left ≡ front ++ back → InRange front after
  room front back e =
      omega (
        arith,
        empty,
        w.adds.next,
        length-append w.made (text_left plans left),
        ap length w.text,
        ap length e,
        length-append front back,
        text_from_short (length input) 0 input (omega arith),
      )

  last_room : (last : List ℕ) → text_left plans left ≡ last → InRange last after
  last_room last e = room last [] (e ∙ sym (append-nil last))

  -- a last line ends the text
  last_added : {last : List ℕ} {new : Output} → text_left plans left ≡ last → Adds last after new → Adds (text_left 0 input) before new
  last_added e a = adds_as (ap (λ (l : List ℕ). w.made ++ l) (sym e) ∙ w.text) (adds_then w.adds a)

  module _ (done : true ≡ eqb (length left) 0) where
    pub end_within : InRange (end_line plans) after
    end_within = last_room (end_line plans) (ends plans left (eqb-true (length left) 0 (sym done)))

    pub end_added : {new : Output} → Adds (end_line plans) after new → Adds (text_left 0 input) before new
    end_added a = last_added (ends plans left (eqb-true (length left) 0 (sym done))) a

  module _ {found : Found} (some : false ≡ eqb (length left) 0) (reads : ReadsRecord left found) where
    bytes : 0 < length left
    bytes = omega (arith, eqb-false (length left) 0 (sym some))

    module _ (q : Refusal) {n : ℕ} (e : found.answer ≡ Err q) (number : n ≡ number_of q) where
      stops : text_left plans left ≡ refused_line (plans + 1) n
      stops =
          let same : n ≡ refusal_in left = number ∙ read_refused q reads e in
          refuses plans left bytes (omega (arith, same, number, number_of_positive q)) ∙ ap (refused_line (plans + 1)) (sym same)

      pub refused_within : InRange (refused_line (plans + 1) n) after
      refused_within = last_room (refused_line (plans + 1) n) stops

      pub refused_added : {new : Output} → Adds (refused_line (plans + 1) n) after new → Adds (text_left 0 input) before new
      refused_added a = last_added stops a

    module _ (n : ℕ) (e : found.answer ≡ Ok n) where
      good : Accepted left (used_in left) (plan_in left)
      good = accepted left (read_accepted n reads e)

      more : text_left plans left ≡ plan_text (plans + 1) found.plan ++ text_left (plans + 1) (drop n left)
      more =
          goes_on plans left bytes (read_accepted n reads e)
          ∙ ap (λ (p : Plan). plan_text (plans + 1) p ++ text_left (plans + 1) (drop (used_in left) left)) (sym (read_plan n reads e))
          ∙ ap (λ (k : ℕ). plan_text (plans + 1) found.plan ++ text_left (plans + 1) (drop k left)) (sym (read_used n reads e))

      pub plan_accepts : Printable found.plan
      plan_accepts = subst Printable (sym (read_plan n reads e)) good.accepts

      pub plan_within : InRange (plan_text (plans + 1) found.plan) after
      plan_within = room (plan_text (plans + 1) found.plan) (text_left (plans + 1) (drop n left)) more

      pub used_within : (n ≤ length left) × (9 ≤ n)
      used_within =
          let same = read_used n reads e in
          (omega (arith, same, good.whole), omega (arith, same, good.least))

      pub walked_more : {new : Output} → Adds (plan_text (plans + 1) found.plan) after new → Walked input (drop n left) before new (plans + 1)
      walked_more a =
          record {
            made = w.made ++ plan_text (plans + 1) found.plan;
            adds = adds_then w.adds a;
            text =
                append_assoc w.made (plan_text (plans + 1) found.plan) (text_left (plans + 1) (drop n left))
                ∙ ap (λ (l : List ℕ). w.made ++ l) (sym more)
                ∙ w.text;
            few = omega (arith, w.few, used_within.0, used_within.1, length-drop n left);
          }
