-- `records::read_by` meets its contract: a record with its chip's mark is refused or judged as the plan that its chip, table and body give.
-- Assumes nothing.
use Prim.Native.Nat.{ℕ, ◌+◌, ◌≤◌}
use mathlib.Core.Path.{◌≡◌, sym, ap, ◌∙◌, subst}
use mathlib.Core.List.{List}
use borrow.Author.Tests.{eq-eqb, ne_eqb, le-ltb}
use lib.ListN.{get_or}
use Rattle.refusal.specs.Checks.{first}
use Rattle.refusal.specs.Answers.{tells}
use Rattle.pages.specs.declared.Layout.{Layout}
use Rattle.pages.specs.Sheets.{longest}
use Rattle.pages.specs.Cards.{layout_of}
use Rattle.curves.specs.declared.Plan.{Plan}
use Rattle.plans.specs.Promises.{plan_checks}
use Rattle.plans.proofs.Registers.{to_the_end}
use Rattle.records.specs.Records.{mark_of, chip_number_in, table_number_in, body_in}
use Rattle.records.specs.declared.Found.{Found}
use Rattle.records.specs.Parts.{Headed, TakesBy}
use Rattle.records.specs.Promises.{record_checks, TakesBody}
use Rattle.records.proofs.Encoding.{registers_short}
use Rattle.records.proofs.Answers.{plan_taken, record_refused, Marked, record_cut, Complete, complete_judged, record_accepted}
use Rattle.records.proofs.Lookups.{looked_has, taken_by}
use Rattle.records.proofs.read_by.Goals as goal

-- the mark is the one of the table's form
marked_by : (layout : Layout) (bytes : List ℕ) (mark : ℕ) → Headed layout bytes → mark ≡ mark_of layout.counted → get_or bytes 1 0 ≡ mark → Marked bytes
marked_by layout bytes mark R form same =
    let H = looked_has (chip_number_in bytes) (table_number_in bytes) layout R.laid in
    let second = same ∙ form ∙ ap (λ (l : Layout). mark_of l.counted) H.laid in
    record {
      long = R.long;
      mark = R.mark;
      form = rw (H.named, eq-eqb (get_or bytes 1 0) (mark_of (layout_of H.chip (table_number_in bytes)).counted) second);
    }

-- what is taken by the layout is what the body promises
body_taken : (layout : Layout) (bytes : List ℕ) → Headed layout bytes → (r : Found)
    → TakesBy layout (chip_number_in bytes) (table_number_in bytes) (body_in bytes) r
    → TakesBody (chip_number_in bytes) (table_number_in bytes) (body_in bytes) r
body_taken layout bytes R r P = taken_by _ _ _ (looked_has (chip_number_in bytes) (table_number_in bytes) layout R.laid) (body_in bytes) r P

pub returns-then-bytes-mark_of : goal.returns-then-bytes-mark_of
returns-then-bytes-mark_of c =
    let bytes = c.args.bytes.now in
    let H = looked_has (chip_number_in bytes) (table_number_in bytes) c.args.layout c.requires.laid in
    let form = c.mark_of.ensures ∙ ap (λ (l : Layout). mark_of l.counted) H.laid in
    let other = ne_eqb (get_or bytes 1 0) (mark_of (layout_of H.chip (table_number_in bytes)).counted) (λ e. c.if-bytes-mark_of.true (e ∙ sym form)) in
    record_refused _ c.refused.ensures (rw (le-ltb _ _ c.requires.long, c.requires.mark, H.named, H.has, other))

pub plan_by-found-requires : goal.plan_by-found-requires
plan_by-found-requires c =
    let bytes = c.args.bytes.now in
    let H = looked_has (chip_number_in bytes) (table_number_in bytes) c.args.layout c.requires.laid in
    subst (λ (l : Layout). l.settings + l.speeds ≤ longest) (sym H.laid) (registers_short H.chip (table_number_in bytes))

pub returns-in_default : goal.returns-in_default
returns-in_default c =
    let bytes = c.args.bytes.now in
    record_cut _ _ _
    (marked_by c.args.layout bytes c.mark_of.result c.requires c.mark_of.ensures c.if-bytes-mark_of.false)
    (body_taken c.args.layout bytes c.requires _ (rw (to_the_end bytes 4) at c.plan_by-found.ensures))
    c.in_default.is

pub returns-in-Err : goal.returns-in-Err
returns-in-Err c =
    let bytes = c.args.bytes.now in
    let T = plan_taken _ _ _ _ _ (body_taken c.args.layout bytes c.requires _ (rw (to_the_end bytes 4) at c.plan_by-found.ensures)) c.in-Ok.is in
    let complete : Complete bytes = record {
      marked = marked_by c.args.layout bytes c.mark_of.result c.requires c.mark_of.ensures c.if-bytes-mark_of.false;
      whole = T.whole;
    } in
    record_refused _ c.refused-in-Err.ensures
    (c.in-Err.ensures.answer ∙ ap (λ (plan : Plan). first (plan_checks plan)) T.plan_in_is ∙ complete_judged _ complete)

pub returns : goal.returns
returns c =
    let bytes = c.args.bytes.now in
    let T = plan_taken _ _ _ _ _ (body_taken c.args.layout bytes c.requires _ (rw (to_the_end bytes 4) at c.plan_by-found.ensures)) c.in-Ok.is in
    let complete : Complete bytes = record {
      marked = marked_by c.args.layout bytes c.mark_of.result c.requires c.mark_of.ensures c.if-bytes-mark_of.false;
      whole = T.whole;
    } in
    let judged : tells c.judge.result ≡ first (record_checks bytes) =
    c.judge.ensures.answer ∙ ap (λ (plan : Plan). first (plan_checks plan)) T.plan_in_is ∙ complete_judged _ complete in
    record_accepted _ _ _ complete (sym judged ∙ ap tells c.in_default-judge.is) (ap (λ (n : ℕ). 4 + n) T.used) T.plan_in_is
