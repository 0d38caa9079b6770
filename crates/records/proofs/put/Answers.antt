-- `records::put` meets its contract: the header, the point count where there is one, and the body are the record.
-- Assumes nothing.
use Prim.Native.Nat.{ℕ, ◌+◌, ◌-◌, ◌≤◌}
use native.Mathlib.Omega.{arith}
use mathlib.Core.Path.{◌≡◌, refl, sym, ap, ap₂, ◌∙◌}
use mathlib.Core.Bool.{true}
use mathlib.Core.List.{List, ◌++◌}
use borrow.Rule.Slice.PartMut.{put_mid}
use lib.ListN.{length, get_or, take, drop, length-append, length-drop}
use lib.Seq.{take_at, drop_at, drop-drop, length-take-le}
use Rattle.pages.specs.declared.Chip.{Chip}
use Rattle.pages.specs.declared.Layout.{Layout}
use Rattle.pages.specs.Rows.{column}
use Rattle.pages.specs.Sheets.{longest}
use Rattle.pages.specs.Cards.{layout_of, has_table}
use Rattle.pages.proofs.Columns.{column_length}
use Rattle.curves.specs.declared.Plan.{Plan}
use Rattle.curves.specs.Values.{Sized}
use Rattle.curves.proofs.Owned.{plan_typed}
use Rattle.bodies.specs.Bodies.{body_of}
use Rattle.records.specs.Records.{header, counting, body_size, record_of}
use Rattle.records.proofs.Encoding.{count_short, laid_short, body_of_table, record_of_plan, body_begins}
use Rattle.records.proofs.Answers.{put_short, put_whole}
use Rattle.records.proofs.put.Goals as goal

-- how long the record is
long : (chip : Chip) (plan : Plan) (layout : Layout) (n : ℕ) → Sized plan → has_table chip plan.table ≡ true → layout ≡ layout_of chip plan.table
    → n ≡ body_size layout → 4 + n ≡ length (record_of chip plan)
long chip plan layout n S has e size =
    omega (
      arith,
      size,
      ap body_size e,
      body_of_table chip plan.table has,
      record_of_plan chip plan S has,
    )

-- its bytes
laid : (chip : Chip) (plan : Plan) (l : Layout) (body : List ℕ) → Sized plan → has_table chip plan.table ≡ true → l ≡ layout_of chip plan.table
    → body ≡ column longest (λ k. get_or (body_of l.leading l.shape plan) k 0)
    → header l.counted plan.chip plan.table ++ (counting l.counted plan.points ++ take (l.settings + l.speeds) body) ≡ record_of chip plan
laid chip plan l body S has e b =
    ap (λ (bytes : List ℕ). header l.counted plan.chip plan.table ++ (counting l.counted plan.points ++ take (l.settings + l.speeds) bytes)) b
    ∙ ap
    (λ (f : Layout).
    header f.counted plan.chip plan.table
    ++ (counting f.counted plan.points ++ take (f.settings + f.speeds) (column longest (λ k. get_or (body_of f.leading f.shape plan) k 0))))
    e
    ∙ ap (λ (bytes : List ℕ). header (layout_of chip plan.table).counted plan.chip plan.table ++ (counting (layout_of chip plan.table).counted plan.points ++ bytes))
    (body_begins chip plan S has)

-- there are enough of them
held : (chip : Chip) (plan : Plan) (l : Layout) (body : List ℕ) → l ≡ layout_of chip plan.table
    → body ≡ column longest (λ k. get_or (body_of l.leading l.shape plan) k 0) → l.settings + l.speeds ≤ length body
held chip plan l body e b =
    omega (arith, laid_short chip plan.table l e, ap length b, column_length longest (λ k. get_or (body_of l.leading l.shape plan) k 0))

-- a header in front, what is put behind it, and the rest as it was
put : (front old behind : List ℕ) (k : ℕ) → length front ≡ 4 → put_mid 4 k (front ++ drop 4 old) behind ≡ front ++ (behind ++ drop (4 + k) old)
put front old behind k e =
    ap₂ (λ (a b : List ℕ). a ++ (behind ++ drop k b)) (take_at front (drop 4 old) 4 e) (drop_at front (drop 4 old) 4 e)
    ∙ ap (λ (l : List ℕ). front ++ (behind ++ l)) (drop-drop k 4 old)

pub body_size-length-requires : goal.body_size-length-requires
body_size-length-requires c = laid_short c.args.chip c.args.plan.table _ c.layout_of-layout.ensures.answer

pub overflow_add-length : goal.overflow_add-length
overflow_add-length c =
    let l = c.layout_of-layout.result in
    omega (arith, c.body_size-length.ensures, laid_short c.args.chip c.args.plan.table l c.layout_of-layout.ensures.answer, count_short l.counted)

pub returns-then-out-length : goal.returns-then-out-length
returns-then-out-length c =
    let a = c.args in
    let S = (plan_typed a.plan _ c.well_formed.1.0).sized in
    let size = long a.chip a.plan _ _ S c.requires c.layout_of-layout.ensures.answer c.body_size-length.ensures in
    put_short a.chip a.plan a.out.now (omega (arith, c.if-out-length.true, size))

pub slice_bounds-body-end : goal.slice_bounds-body-end
slice_bounds-body-end c = held c.args.chip c.args.plan _ _ c.layout_of-layout.ensures.answer c.body_of-body.ensures.answer

pub slice_bounds-put_body-end : goal.slice_bounds-put_body-end
slice_bounds-put_body-end c =
    let l = c.layout_of-layout.result in
    sym (length-take-le (l.settings + l.speeds) c.body_of-body.result (held c.args.chip c.args.plan l _ c.layout_of-layout.ensures.answer c.body_of-body.ensures.answer))

pub put_body-requires : goal.put_body-requires
put_body-requires c =
    let a = c.args in
    let l = c.layout_of-layout.result in
    let n = c.body_size-length.result in
    let front = ap length (c.copy_from_slice.ensures.after ∙ c.header.ensures) in
    let out = c.copy_from_slice.new.self ++ drop 4 a.out.now in
    let whole = length-append c.copy_from_slice.new.self (drop 4 a.out.now) in
    let rest = length-drop 4 a.out.now in
    let behind = length-drop 4 out in
    let room : 4 + n - 4 ≤ length (drop 4 out) = omega (arith, front, whole, rest, behind, c.if-out-length.false) in
    omega (
      arith,
      length-take-le (l.settings + l.speeds) c.body_of-body.result (held a.chip a.plan l _ c.layout_of-layout.ensures.answer c.body_of-body.ensures.answer),
      c.body_size-length.ensures,
      length-take-le (4 + n - 4) (drop 4 out) room,
    )

pub returns : goal.returns
returns c =
    let a = c.args in
    let l = c.layout_of-layout.result in
    let n = c.body_size-length.result in
    let S = (plan_typed a.plan _ c.well_formed.1.0).sized in
    let e = c.layout_of-layout.ensures.answer in
    let size = long a.chip a.plan l n S c.requires e c.body_size-length.ensures in
    let front = c.copy_from_slice.ensures.after ∙ c.header.ensures in
    let behind : 4 + (4 + n - 4) ≡ 4 + n = omega arith in
    put_whole a.chip a.plan a.out.now (4 + n) _ size c.if-out-length.false
    (ap₂ (λ (h b : List ℕ). put_mid 4 (4 + n - 4) (h ++ drop 4 a.out.now) b) front c.put_body.ensures
    ∙ put (header l.counted a.plan.chip a.plan.table) a.out.now (counting l.counted a.plan.points ++ take (l.settings + l.speeds) c.body_of-body.result) (4 + n - 4) refl
    ∙ ap₂ (λ (r : List ℕ) (k : ℕ). r ++ drop k a.out.now) (laid a.chip a.plan l c.body_of-body.result S c.requires e c.body_of-body.ensures.answer) behind)
