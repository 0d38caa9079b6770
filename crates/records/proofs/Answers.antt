-- What the reader and the writer answer is what they promise, once the tests on the way are known.
-- Assumes nothing.
use Rattle.std.specs.Prelude.{Result, Ok, Err, Some}
use Prim.Native.Nat.{ℕ, ◌≤◌, ◌<◌}
use native.Mathlib.Omega.{arith}
use mathlib.Core.Path.{◌≡◌, refl, sym, ap, ap₂, ◌∙◌}
use mathlib.Core.Bool.{Bool, true, false, cond, not, ◌&&◌}
use mathlib.Core.List.{List, [], ◌++◌}
use borrow.Author.Tests.{lt-ltb, le-ltb, ltb-false, not-false}
use lib.Dec.{eqb, ltb}
use lib.ListN.{length, get_or, drop}
use Rattle.refusal.specs.declared.Refusal.{Refusal}
use Rattle.refusal.specs.Refusals.{number_of}
use Rattle.refusal.specs.Checks.{Check, first, told, left, room_checks}
use Rattle.refusal.proofs.Numbers.{number_of_positive}
use Rattle.refusal.proofs.Passed.{
  all_passed,
  first_passed,
  first_refused,
  when_passed,
  when_refused,
  told_passed,
  told_refused,
  same_told,
  same_left,
}
use Rattle.refusal.specs.Answers.{tells_amount}
use Rattle.pages.specs.declared.Chip.{Chip}
use Rattle.pages.specs.declared.Shape.{Shape}
use Rattle.pages.specs.declared.Layout.{Layout}
use Rattle.pages.specs.Sheets.{goes_with}
use Rattle.pages.specs.Cards.{chip_of, when_known, has_table, layout_of}
use Rattle.pages.proofs.Numbers.{chip_known}
use Rattle.curves.specs.declared.Plan.{Plan}
use Rattle.curves.specs.Values.{Sized}
use Rattle.bodies.specs.Bodies.{decoded}
use Rattle.plans.specs.Plans.{points_pass}
use Rattle.plans.specs.Promises.{ask_plan_checks, order_checks, plan_checks}
use Rattle.records.specs.declared.Found.{Found}
use Rattle.records.specs.Records.{body_length, record_length, record_of, encoded, chip_number_in, table_number_in, body_in, no_plan, plan_by, plan_of, plan_in}
use Rattle.records.specs.Parts.{Refuses, PutsRecord}
use Rattle.records.specs.Promises.{wrong_mark, other_mark, count_out, body_checks, body_plan_checks, record_checks, write_checks, TakesBody, ReadsRecord, WritesRecord}
use Rattle.bodies.proofs.Laws.{decoded_chip, decoded_table, decoded_points, decoded_sized}
use Rattle.records.proofs.Encoding.{body_of_table, goes_own}

-- what an answer with a count says of the call
pub told_of : (checks : List Check) (value n : ℕ) (r : Result ℕ Refusal) → r ≡ Ok n → tells_amount r ≡ told checks value
    → (first checks ≡ 0) × (n ≡ value)
told_of checks value n r e t =
    let both : (0, n) ≡ told checks value = ap tells_amount (sym e) ∙ t in
    let none : first checks ≡ 0 = sym (ap (λ (p : ℕ × ℕ). p.0) both) in
    (none, ap (λ (p : ℕ × ℕ). p.1) both ∙ sym (when_passed value 0 none))

-- a body that lacks nothing
pub record WholeBody (number table : ℕ) (bytes : List ℕ) : Type 0 where
  pub chip : Chip
  pub named : chip_of number ≡ Some chip
  pub has : has_table chip table ≡ true
  pub count : count_out (layout_of chip table) bytes ≡ false
  pub long : body_length chip ≤ length bytes

pub whole_body : (number table : ℕ) (bytes : List ℕ) → first (body_checks number table bytes) ≡ 0 → WholeBody number table bytes
whole_body number table bytes h =
    let p = all_passed (body_checks number table bytes) refl h in
    let known = chip_known number p.0 in
    record {
      chip = known.chip;
      named = known.named;
      has = not-false _ (rw known.named at p.1.0);
      count = rw known.named at p.1.1.0;
      long = ltb-false (length bytes) (body_length known.chip) (rw known.named at p.1.1.1.0);
    }

-- what a plan out of a body names, whether its record carries a point count or not
module _ (leading : Bool) (shape : Shape) (chip table : ℕ) (bytes : List ℕ) where
  abbrev formed : Bool → Plan
  formed counted = cond counted (decoded leading shape chip table (get_or bytes 0 0) (drop 1 bytes)) (decoded leading shape chip table 0 bytes)

  formed_chip : (counted : Bool) → (formed counted).chip ≡ chip
  formed_chip true = decoded_chip leading shape chip table (get_or bytes 0 0) (drop 1 bytes)
  formed_chip false = decoded_chip leading shape chip table 0 bytes

  formed_table : (counted : Bool) → (formed counted).table ≡ table
  formed_table true = decoded_table leading shape chip table (get_or bytes 0 0) (drop 1 bytes)
  formed_table false = decoded_table leading shape chip table 0 bytes

  formed_points : (counted : Bool) → (formed counted).points ≡ cond counted (get_or bytes 0 0) 0
  formed_points true = decoded_points leading shape chip table (get_or bytes 0 0) (drop 1 bytes)
  formed_points false = decoded_points leading shape chip table 0 bytes

  formed_sized : (counted : Bool) → Sized (formed counted)
  formed_sized true = decoded_sized leading shape chip table (get_or bytes 0 0) (drop 1 bytes)
  formed_sized false = decoded_sized leading shape chip table 0 bytes

pub by_chip : (l : Layout) (chip table : ℕ) (bytes : List ℕ) → (plan_by l chip table bytes).chip ≡ chip
by_chip l chip table bytes = formed_chip l.leading l.shape chip table bytes l.counted

pub by_table : (l : Layout) (chip table : ℕ) (bytes : List ℕ) → (plan_by l chip table bytes).table ≡ table
by_table l chip table bytes = formed_table l.leading l.shape chip table bytes l.counted

pub by_points : (l : Layout) (chip table : ℕ) (bytes : List ℕ) → (plan_by l chip table bytes).points ≡ cond l.counted (get_or bytes 0 0) 0
by_points l chip table bytes = formed_points l.leading l.shape chip table bytes l.counted

pub by_sized : (l : Layout) (chip table : ℕ) (bytes : List ℕ) → Sized (plan_by l chip table bytes)
by_sized l chip table bytes = formed_sized l.leading l.shape chip table bytes l.counted

-- a point count that is there and is not refused goes with the table
counted_goes : (counted : Bool) (n : ℕ) (bytes : List ℕ) → cond counted 1 0 ≤ length bytes
    → (ltb 0 (length bytes) && not (cond counted (eqb (get_or bytes 0 0) n) true)) ≡ false → cond counted (eqb (get_or bytes 0 0) n) true ≡ true
counted_goes true n bytes h e = not-false _ (rw (lt-ltb 0 (length bytes) h) at e)
counted_goes false n bytes h e = refl

module _ (number table : ℕ) (bytes : List ℕ) (W : WholeBody number table bytes) where
  -- the plan in it
  abbrev pub body_plan : Plan
  body_plan = plan_by (layout_of W.chip table) number table bytes

  long_enough : ltb (length bytes) (body_length W.chip) ≡ false
  long_enough = le-ltb (length bytes) (body_length W.chip) W.long

  same_chip : chip_of body_plan.chip ≡ Some W.chip
  same_chip = ap chip_of (by_chip (layout_of W.chip table) number table bytes) ∙ W.named

  same_table : body_plan.table ≡ table
  same_table = by_table (layout_of W.chip table) number table bytes

  same_count : points_pass W.chip body_plan ≡ true
  unfolding points_pass
  same_count =
      let l = layout_of W.chip table in
      ap₂ (λ (t n : ℕ). goes_with (layout_of W.chip t) n) same_table (by_points l number table bytes)
      ∙ goes_own l (get_or bytes 0 0)
      ∙ counted_goes l.counted l.speeds bytes (omega (arith, W.long, body_of_table W.chip table W.has)) W.count

  -- what is left to check is what its plan is judged by, whatever is checked behind it
  pub whole_asked : first (ask_plan_checks body_plan) ≡ first (body_checks number table bytes)
  whole_asked = rw (W.named, same_chip, same_table, W.has, same_count, W.count, long_enough)

  pub whole_judged : (more : List Check) → first (plan_checks body_plan ++ more) ≡ first (body_plan_checks number table bytes ++ more)
  whole_judged more = rw (W.named, same_chip, same_table, W.has, same_count, W.count, long_enough)

pub plan_refused : (number table : ℕ) (bytes : List ℕ) {refusal : Refusal} {r : Found} → Refuses refusal r
    → number_of refusal ≡ first (body_checks number table bytes) → TakesBody number table bytes r
plan_refused number table bytes {refusal} R e =
    record {
      answer = ap tells_amount R.answer ∙ told_refused refusal (body_checks number table bytes) _ e;
      plan = R.plan ∙ when_refused refusal (plan_of number table bytes) no_plan e;
    }

-- what an accepted body says: it lacks nothing, and the plan is the one in it
pub record Taken (number table : ℕ) (bytes : List ℕ) (n : ℕ) (plan : Plan) : Type 0 where
  pub whole : WholeBody number table bytes
  pub used : n ≡ body_length whole.chip
  pub plan_in_is : plan ≡ body_plan number table bytes whole

pub plan_taken : (number table : ℕ) (bytes : List ℕ) (n : ℕ) (r : Found) → TakesBody number table bytes r → r.answer ≡ Ok n
    → Taken number table bytes n r.plan
plan_taken number table bytes n r P e =
    let t = told_of (body_checks number table bytes) (when_known (chip_of number) body_length 0) n r.answer e P.answer in
    let W = whole_body number table bytes t.0 in
    record {
      whole = W;
      used = rw W.named at t.1;
      plan_in_is = rw W.named at (P.plan ∙ sym (when_passed (plan_of number table bytes) no_plan t.0));
    }

-- a refused record
pub record_refused : (bytes : List ℕ) {refusal : Refusal} {r : Found} → Refuses refusal r
    → number_of refusal ≡ first (record_checks bytes) → ReadsRecord bytes r
record_refused bytes {refusal} R e =
    record {
      answer = ap tells_amount R.answer ∙ told_refused refusal (record_checks bytes) _ e;
      plan = R.plan ∙ when_refused refusal (plan_in bytes) no_plan e;
    }

-- a record with its header and its chip's mark is checked by its chip, its table and its body
pub record Marked (bytes : List ℕ) : Type 0 where
  pub long : 4 ≤ length bytes
  pub mark : wrong_mark bytes ≡ false
  pub form : other_mark (get_or bytes 1 0) (chip_number_in bytes) (table_number_in bytes) ≡ false

marked_checks : (bytes : List ℕ) → Marked bytes
    → first (record_checks bytes) ≡ first (body_plan_checks (chip_number_in bytes) (table_number_in bytes) (body_in bytes))
marked_checks bytes M = rw (le-ltb (length bytes) 4 M.long, M.mark, M.form)

-- one whose body is refused is refused as its body is
pub record_cut : (bytes : List ℕ) (refusal : Refusal) (r : Found) → Marked bytes
    → TakesBody (chip_number_in bytes) (table_number_in bytes) (body_in bytes) r → r.answer ≡ Err refusal → ReadsRecord bytes r
record_cut bytes refusal r M P e =
    let checks = body_checks (chip_number_in bytes) (table_number_in bytes) (body_in bytes) in
    let number : number_of refusal ≡ first checks = ap (λ (t : ℕ × ℕ). t.0) (ap tells_amount (sym e) ∙ P.answer) in
    let all : number_of refusal ≡ first (record_checks bytes) =
    number
    ∙ sym (first_refused checks (order_checks (plan_in bytes)) (omega (arith, number_of_positive refusal)))
    ∙ sym (marked_checks bytes M) in
    record_refused bytes (record { answer = e; plan = P.plan ∙ sym (when_refused refusal (plan_in bytes) no_plan number) }) all

-- one that lacks nothing is judged as its plan is
pub record Complete (bytes : List ℕ) : Type 0 where
  pub marked : Marked bytes
  pub whole : WholeBody (chip_number_in bytes) (table_number_in bytes) (body_in bytes)

abbrev pub record_plan : (bytes : List ℕ) → Complete bytes → Plan
record_plan bytes C = body_plan (chip_number_in bytes) (table_number_in bytes) (body_in bytes) C.whole

pub complete_judged : (bytes : List ℕ) (C : Complete bytes) → first (plan_checks (record_plan bytes C)) ≡ first (record_checks bytes)
complete_judged bytes C =
    whole_judged (chip_number_in bytes) (table_number_in bytes) (body_in bytes) C.whole [] ∙ sym (marked_checks bytes C.marked)

pub record_accepted : (bytes : List ℕ) (n : ℕ) (plan : Plan) (C : Complete bytes) → first (record_checks bytes) ≡ 0
    → n ≡ record_length C.whole.chip → plan ≡ record_plan bytes C
    → ReadsRecord bytes (record { answer = Ok n; plan = plan })
record_accepted bytes n plan C none e d =
    let used : n ≡ when_known (chip_of (chip_number_in bytes)) record_length 0 = rw C.whole.named e in
    let read : plan ≡ plan_in bytes = rw C.whole.named d in
    record {
      answer = told_passed (record_checks bytes) n none ∙ ap (told (record_checks bytes)) used;
      plan = read ∙ when_passed (plan_in bytes) no_plan none;
    }

-- a refused write alters no byte
pub write_refused : (plan : Plan) (old : List ℕ) (refusal : Refusal) → number_of refusal ≡ first (plan_checks plan)
    → WritesRecord plan old (Err refusal) old
write_refused plan old refusal e =
    let f = e ∙ sym (first_refused (plan_checks plan) (room_checks (length (encoded plan)) old) (rw (sym e) (number_of_positive refusal))) in
    record {
      answer = told_refused refusal (write_checks plan old) _ f;
      bytes = when_refused refusal _ old f;
    }

-- a record is put where there is room, from bytes that begin with it
module _ (chip : Chip) (plan : Plan) (old : List ℕ) where
  pub put_short : length old < length (record_of chip plan) → PutsRecord chip plan old (Err Refusal.OutputTooShort) old
  put_short h =
      let f : 9 ≡ first (room_checks (length (record_of chip plan)) old) = rw (lt-ltb (length old) (length (record_of chip plan)) h) in
      record {
        answer = told_refused Refusal.OutputTooShort (room_checks (length (record_of chip plan)) old) _ f;
        bytes = when_refused Refusal.OutputTooShort _ old f;
      }

  pub put_whole : (n : ℕ) (new : List ℕ) → n ≡ length (record_of chip plan) → n ≤ length old → new ≡ record_of chip plan ++ drop n old
      → PutsRecord chip plan old (Ok n) new
  put_whole n new e h written =
      let checks = room_checks (length (record_of chip plan)) old in
      let f : first checks ≡ 0 = rw (le-ltb (length old) (length (record_of chip plan)) (omega arith)) in
      record {
        answer = told_passed checks n f ∙ ap (told checks) e;
        bytes = written ∙ ap (λ (k : ℕ). record_of chip plan ++ drop k old) e ∙ when_passed _ old f;
      }

  -- an accepted plan is refused only for want of room
  pub write_put : {r : (Result ℕ Refusal)} {new : List ℕ} → chip_of plan.chip ≡ Some chip → first (plan_checks plan) ≡ 0 → PutsRecord chip plan old r new
      → WritesRecord plan old r new
  write_put named judged p =
      let checks = room_checks (length (record_of chip plan)) old in
      let whole : record_of chip plan ≡ encoded plan = rw named in
      let alike : first checks ≡ first (write_checks plan old) =
      ap (λ (l : List ℕ). first (room_checks (length l) old)) whole
      ∙ sym (first_passed (plan_checks plan) (room_checks (length (encoded plan)) old) refl judged) in
      record {
        answer =
            p.answer
            ∙ same_told 0 (length (record_of chip plan)) checks (write_checks plan old) alike
            ∙ ap (λ (l : List ℕ). told (write_checks plan old) (length l)) whole;
        bytes =
            p.bytes
            ∙ same_left (record_of chip plan ++ drop (length (record_of chip plan)) old) old checks (write_checks plan old) alike
            ∙ ap (λ (l : List ℕ). left (write_checks plan old) (l ++ drop (length l) old) old) whole;
      }
