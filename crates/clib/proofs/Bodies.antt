-- A plan that crosses is refused by 3, 4 or 5, or it is the plan in its body and the library checks what is left, in the same order.
-- Assumes nothing.
use Rattle.std.specs.Prelude.{Result, Ok, Err}
use Prim.Native.Nat.{ℕ, ◌*◌}
use native.Mathlib.Omega.{arith}
use mathlib.Core.Path.{◌≡◌, ap, sym, ◌∙◌}
use mathlib.Core.List.{List, ◌++◌}
use lib.ListN.{length}
use Rattle.refusal.specs.declared.Refusal.{Refusal}
use Rattle.refusal.specs.Refusals.{number_of}
use Rattle.refusal.specs.Answers.{tells_amount}
use Rattle.refusal.specs.Checks.{Check, first, room_checks}
use Rattle.refusal.proofs.Numbers.{number_of_positive}
use Rattle.refusal.proofs.Passed.{first_refused, told_refused, when_refused, same_told, same_left}
use Rattle.pages.specs.Cards.{layout_of}
use Rattle.curves.specs.declared.Plan.{Plan}
use Rattle.plans.specs.Promises.{ask_plan_checks, order_checks, plan_checks, AsksPlan, AsksPlanBy}
use Rattle.records.specs.declared.Found.{Found}
use Rattle.curves.specs.Values.{Sized}
use Rattle.records.specs.Records.{encoded, plan_by, plan_of}
use Rattle.records.specs.Promises.{body_checks, body_plan_checks, write_checks, TakesBody, WritesRecord, WritesRecordBy}
use Rattle.records.proofs.Answers.{by_sized, whole_asked, whole_judged, plan_taken}
use Rattle.scripts.specs.Scripts.{script_for}
use Rattle.scripts.specs.Promises.{script_checks, Scripts, ScriptsBy}
use Rattle.plays.specs.Promises.{start_checks, play_checks, Plays, PlaysBy}
use Rattle.clib.specs.Bodies.{write_body_checks, script_body_checks, play_body_checks}

-- a body that is refused
module _ (chip table : ℕ) (body : List ℕ) (refusal : Refusal) (found : Found) (P : TakesBody chip table body found) (e : found.answer ≡ Err refusal) where
  pub body_refused : number_of refusal ≡ first (body_checks chip table body)
  body_refused = ap (λ (t : ℕ × ℕ). t.0) (ap tells_amount (sym e) ∙ P.answer)

  -- the call's further checks are not asked
  by_all : (more : List Check) → number_of refusal ≡ first (body_plan_checks chip table body ++ more)
  by_all more =
      body_refused
      ∙ sym (first_refused (body_checks chip table body) (order_checks (plan_of chip table body) ++ more) (omega (arith, number_of_positive refusal, body_refused)))

  -- the call tells its number, and the buffer holds what it held
  pub asks_refused : (t : ℕ) → AsksPlanBy (body_checks chip table body) (plan_of chip table body) t (Err refusal)
  asks_refused t = record { answer = told_refused refusal (body_checks chip table body) _ body_refused }

  pub write_refused : (old : List ℕ) → WritesRecordBy (write_body_checks chip table body old) (plan_of chip table body) old (Err refusal) old
  write_refused old =
      let all = by_all (room_checks (length (encoded (plan_of chip table body))) old) in
      record { answer = told_refused refusal (write_body_checks chip table body old) _ all; bytes = when_refused refusal _ old all }

  pub script_refused : (old : List ℕ) → ScriptsBy (script_body_checks chip table body old) (plan_of chip table body) old (Err refusal) old
  script_refused old =
      let all = by_all (room_checks (2 * length (script_for (plan_of chip table body))) old) in
      record { answer = told_refused refusal (script_body_checks chip table body old) _ all; bytes = when_refused refusal _ old all }

  pub play_refused : (old : List ℕ) (count : ℕ)
      → PlaysBy (play_body_checks chip table body old) (plan_of chip table body) old count (Err refusal) old
  play_refused old count =
      let all = by_all (start_checks (plan_of chip table body) old) in
      record { answer = told_refused refusal (play_body_checks chip table body old) _ all; bytes = when_refused refusal _ old all }

-- a body that is taken: the plan is the one in it, and what the library asks of that plan is what is left of the call's list
pub record Crossed (chip table : ℕ) (body : List ℕ) (plan : Plan) : Type 0 where
  pub same : plan ≡ plan_of chip table body
  pub sized : Sized plan
  pub asks : first (ask_plan_checks (plan_of chip table body)) ≡ first (body_checks chip table body)
  pub checks : (more : List Check) → first (plan_checks (plan_of chip table body) ++ more) ≡ first (body_plan_checks chip table body ++ more)

pub crossed : (chip table : ℕ) (body : List ℕ) (n : ℕ) (found : Found) → TakesBody chip table body found → found.answer ≡ Ok n
    → Crossed chip table body found.plan
crossed chip table body n found P e =
    let T = plan_taken chip table body n found P e in
    let W = T.whole in
    let in_body : plan_of chip table body ≡ plan_by (layout_of W.chip table) chip table body = rw W.named in
    record {
      same = T.plan_in_is ∙ sym in_body;
      sized = rw T.plan_in_is (by_sized (layout_of W.chip table) chip table body);
      asks = ap (λ (p : Plan). first (ask_plan_checks p)) in_body ∙ whole_asked chip table body W;
      checks = λ more. ap (λ (p : Plan). first (plan_checks p ++ more)) in_body ∙ whole_judged chip table body W more;
    }

-- so what the library promises of the plan, the boundary promises of the body
module _ (chip table : ℕ) (body : List ℕ) {plan : Plan} (C : Crossed chip table body plan) where
  abbrev its : Plan
  its = plan_of chip table body

  pub asks_crossed : {t : ℕ} {r : Result ℕ Refusal} → AsksPlan plan t r → AsksPlanBy (body_checks chip table body) its t r
  asks_crossed {t} {r} p =
      let q : AsksPlan its t r = rw C.same at p in
      record { answer = q.answer ∙ same_told 0 _ (ask_plan_checks its) (body_checks chip table body) C.asks }

  pub write_crossed : {old new : List ℕ} {r : Result ℕ Refusal} → WritesRecord plan old r new → WritesRecordBy (write_body_checks chip table body old) its old r new
  write_crossed {old} {new} {r} p =
      let q : WritesRecord its old r new = rw C.same at p in
      let e = C.checks (room_checks (length (encoded its)) old) in
      record {
        answer = q.answer ∙ same_told 0 _ (write_checks its old) (write_body_checks chip table body old) e;
        bytes = q.bytes ∙ same_left _ old (write_checks its old) (write_body_checks chip table body old) e;
      }

  pub script_crossed : {old new : List ℕ} {r : Result ℕ Refusal} → Scripts plan old r new → ScriptsBy (script_body_checks chip table body old) its old r new
  script_crossed {old} {new} {r} p =
      let q : Scripts its old r new = rw C.same at p in
      let e = C.checks (room_checks (2 * length (script_for its)) old) in
      record {
        answer = q.answer ∙ same_told 0 _ (script_checks its old) (script_body_checks chip table body old) e;
        bytes = q.bytes ∙ same_left _ old (script_checks its old) (script_body_checks chip table body old) e;
      }

  pub play_crossed : {old new : List ℕ} {count : ℕ} {r : Result ℕ Refusal} → Plays plan old count r new
      → PlaysBy (play_body_checks chip table body old) its old count r new
  play_crossed {old} {new} {count} {r} p =
      let q : Plays its old count r new = rw C.same at p in
      let e = C.checks (start_checks its old) in
      record {
        answer = q.answer ∙ same_told 0 _ (play_checks its old) (play_body_checks chip table body old) e;
        bytes = q.bytes ∙ same_left _ old (play_checks its old) (play_body_checks chip table body old) e;
      }
