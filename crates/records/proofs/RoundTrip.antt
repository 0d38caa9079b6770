-- Round trips, about the contracts: what is written is read back, what was read is written back as the bytes used, and a plan has one encoding.
-- Assumes nothing.
use Rattle.std.specs.Prelude.{Result, Ok, Some}
use Rattle.refusal.specs.declared.Refusal.{Refusal}
use Prim.Native.Nat.{ℕ, suc, ◌+◌, ◌≤◌, ◌<◌}
use native.Mathlib.Omega.{arith}
use mathlib.Core.Path.{◌≡◌, refl, sym, ap, ap₂, ◌∙◌}
use mathlib.Core.Bool.{Bool, true, false, cond, not, ◌&&◌, ◌||◌, and-eq-true_iff}
use mathlib.Core.List.{List, [], ◌∷◌, ◌++◌, append_assoc}
use borrow.Author.Tests.{ltb-false, le-ltb, eqb-true, eq-eqb, not-false}
use lib.Dec.{eqb, ltb}
use lib.ListN.{length, get_or, take, drop, length-append, length-drop}
use lib.Seq.{get_or-drop, length-take-le}
use Rattle.refusal.specs.Checks.{first, room_checks}
use Rattle.refusal.proofs.Passed.{all_passed, first_passed, first_front, when_passed, told_passed}
use Rattle.refusal.proofs.Answers.{tells_amount_injective}
use Rattle.pages.specs.declared.Chip.{Chip}
use Rattle.pages.specs.declared.Shape.{Shape}
use Rattle.pages.specs.Sheets.{room, goes_with}
use Rattle.pages.specs.Cards.{chip_of, when_known, shape_of, layout_of}
use Rattle.pages.proofs.Numbers.{chip_known}
use Rattle.curves.specs.declared.Plan.{Plan}
use Rattle.curves.proofs.Filled.{Roomy}
use Rattle.bodies.specs.Bodies.{body_of, decoded, own_of}
use Rattle.plans.specs.Plans.{points_pass}
use Rattle.plans.specs.Promises.{order_checks, plan_checks}
use Rattle.plans.proofs.Laws.{passed_plan, accepted_known}
use Rattle.records.specs.declared.Found.{Found}
use Rattle.curves.specs.Values.{Sized}
use Rattle.records.specs.Records.{mark_of, counting, body_length, body_by, record_length, record_body, record_of, encoded, chip_number_in, table_number_in, body_in, no_plan, plan_in, own}
use Rattle.records.specs.Promises.{count_out, body_checks, body_plan_checks, record_checks, write_checks, ReadsRecord, WritesRecord}
use Rattle.bodies.proofs.Laws.{decoded_points, body_back, encode_decode}
use Rattle.records.proofs.Answers.{told_of, by_chip, by_table, whole_body, Complete, record_plan, complete_judged}
use Rattle.records.proofs.Encoding.{table_roomy, body_of_table, body_of_shape, body_of_plan, record_of_plan, own_judged}

-- a record that is accepted is complete
pub whole_record : (bytes : List ℕ) → first (record_checks bytes) ≡ 0 → Complete bytes
whole_record bytes h =
    let p = all_passed (record_checks bytes) refl h in
    let checks = body_checks (chip_number_in bytes) (table_number_in bytes) (body_in bytes) in
    let form = p.1.1.1.1.0 in
    let passed : first (body_plan_checks (chip_number_in bytes) (table_number_in bytes) (body_in bytes)) ≡ 0 = rw (p.0, p.1.0, form) at h in
    record {
      marked = record { long = ltb-false (length bytes) 4 p.0; mark = p.1.0; form = form };
      whole = whole_body (chip_number_in bytes) (table_number_in bytes) (body_in bytes) (first_front checks (order_checks (plan_in bytes)) refl passed);
    }

header_split : (bytes : List ℕ) (m : ℕ) → 4 ≤ length bytes
    → get_or bytes 0 0 ∷ (get_or bytes 1 0 ∷ (get_or bytes 2 0 ∷ (get_or bytes 3 0 ∷ take m (drop 4 bytes)))) ≡ take (4 + m) bytes
header_split [] m h = absurd (omega arith)
header_split (a ∷ []) m h = absurd (omega arith)
header_split (a ∷ (b ∷ [])) m h = absurd (omega arith)
header_split (a ∷ (b ∷ (c ∷ []))) m h = absurd (omega arith)
header_split (a ∷ (b ∷ (c ∷ (d ∷ l)))) m h =
    let e : suc (suc (suc (suc m))) ≡ 4 + m = omega arith in
    ap (λ (k : ℕ). take k (a ∷ (b ∷ (c ∷ (d ∷ l))))) e

-- a body of either form, its point count with it, is what stands in front of the bytes that its plan was taken from
form_encode : (counted leading : Bool) (shape : Shape) (chip table : ℕ) (bytes : List ℕ) → Roomy shape
    → cond counted 1 0 + ((room shape).0 + (room shape).1) ≤ length bytes → ((k : ℕ) → get_or bytes k 0 < 256)
    → (let plan = cond counted (decoded leading shape chip table (get_or bytes 0 0) (drop 1 bytes)) (decoded leading shape chip table 0 bytes) in
    counting counted plan.points ++ body_of leading shape plan ≡ take (cond counted 1 0 + ((room shape).0 + (room shape).1)) bytes)
form_encode true leading shape chip table [] p h small = absurd (omega arith)
form_encode true leading shape chip table (b ∷ bytes) p h small =
    let r = (room shape).0 + (room shape).1 in
    let one : 1 + r ≡ suc r = omega arith in
    ap₂ (λ (n : ℕ) (l : List ℕ). n ∷ l) (decoded_points leading shape chip table b bytes)
    (encode_decode leading shape chip table b bytes p (omega arith) (λ k. small (suc k)))
    ∙ ap (λ (n : ℕ). take n (b ∷ bytes)) (sym one)
form_encode false leading shape chip table bytes p h small =
    let r = (room shape).0 + (room shape).1 in
    let none : 0 + r ≡ r = omega arith in
    encode_decode leading shape chip table 0 bytes p (omega arith) small ∙ ap (λ (n : ℕ). take n bytes) (sym none)

-- the record of the plan in a complete record is the front of its bytes
complete_encoded : (bytes : List ℕ) (C : Complete bytes) → ((k : ℕ) → get_or bytes k 0 < 256)
    → encoded (record_plan bytes C) ≡ take (record_length C.whole.chip) bytes
complete_encoded bytes C small =
    let chip = C.whole.chip in
    let l = layout_of chip (table_number_in bytes) in
    let plan = record_plan bytes C in
    let marks =
    (and-eq-true_iff (eqb (get_or bytes 0 0) 0x43) (eqb (get_or bytes 1 0) 0x50 || eqb (get_or bytes 1 0) 0x51)).0 (not-false _ C.marked.mark) in
    let number = by_chip l (chip_number_in bytes) (table_number_in bytes) (body_in bytes) in
    let table = by_table l (chip_number_in bytes) (table_number_in bytes) (body_in bytes) in
    let second = eqb-true (get_or bytes 1 0) (mark_of l.counted) (not-false _ (rw C.whole.named at C.marked.form)) in
    let bytes_small : (k : ℕ) → get_or (body_in bytes) k 0 < 256 = λ k. rw (get_or-drop 4 bytes k 0) (small (4 + k)) in
    let size : cond l.counted 1 0 + ((room l.shape).0 + (room l.shape).1) ≡ body_length chip =
    ap (λ (n : ℕ). cond l.counted 1 0 + n) (body_of_shape chip (table_number_in bytes) C.whole.has)
    ∙ body_of_table chip (table_number_in bytes) C.whole.has in
    let laid : record_body chip plan ≡ take (body_length chip) (body_in bytes) =
    ap (λ (t : ℕ). body_by (layout_of chip t) plan) table
    ∙ form_encode l.counted l.leading l.shape (chip_number_in bytes) (table_number_in bytes) (body_in bytes)
    (table_roomy chip (table_number_in bytes)) (omega (arith, size, C.whole.long)) bytes_small
    ∙ ap (λ (n : ℕ). take n (body_in bytes)) size in
    let marked : mark_of (layout_of chip plan.table).counted ≡ get_or bytes 1 0 = ap (λ (t : ℕ). mark_of (layout_of chip t).counted) table ∙ sym second in
    let whole : encoded plan ≡ record_of chip plan = rw (number, C.whole.named) in
    whole
    ∙ (λ i. sym (eqb-true (get_or bytes 0 0) 0x43 marks.0) i ∷ (marked i ∷ (number i ∷ (table i ∷ laid i))))
    ∙ header_split bytes (body_length chip) C.marked.long

-- what an accepted read says: whose record it is, its length, and the record of the plan
pub record ReadAccepted (bytes : List ℕ) (n : ℕ) (plan : Plan) : Type 0 where
  pub within : n ≤ length bytes
  pub judged : first (plan_checks plan) ≡ 0
  pub record_of_is : encoded plan ≡ take n bytes

pub read_accepts : (bytes : List ℕ) (n : ℕ) (q : Found) → ((k : ℕ) → get_or bytes k 0 < 256) → ReadsRecord bytes q → q.answer ≡ Ok n
    → ReadAccepted bytes n q.plan
read_accepts bytes n q small R e =
    let t = told_of (record_checks bytes) (when_known (chip_of (chip_number_in bytes)) record_length 0) n q.answer e R.answer in
    let C = whole_record bytes t.0 in
    let chip = C.whole.chip in
    let length_is : n ≡ record_length chip = rw C.whole.named at t.1 in
    let plan_is : q.plan ≡ record_plan bytes C =
    rw C.whole.named at (R.plan ∙ sym (when_passed (plan_in bytes) no_plan t.0)) in
    record {
      within = omega (arith, length_is, C.whole.long, C.marked.long, length-drop 4 bytes);
      judged = ap (λ (p : Plan). first (plan_checks p)) plan_is ∙ complete_judged bytes C ∙ t.0;
      record_of_is = ap encoded plan_is ∙ complete_encoded bytes C small ∙ ap (λ (k : ℕ). take k bytes) (sym length_is);
    }

-- A plan has one encoding: bytes that are read as the same plan are the same, as far as they are used
pub one_encoding : (bytes other : List ℕ) (n m : ℕ) (q s : Found)
    → ((k : ℕ) → get_or bytes k 0 < 256) → ((k : ℕ) → get_or other k 0 < 256)
    → ReadsRecord bytes q → ReadsRecord other s → q.answer ≡ Ok n → s.answer ≡ Ok m → q.plan ≡ s.plan
    → (n ≡ m) × (take n bytes ≡ take m other)
one_encoding bytes other n m q s small small' R R' e e' same =
    let A = read_accepts bytes n q small R e in
    let B = read_accepts other m s small' R' e' in
    let fronts = sym A.record_of_is ∙ ap encoded same ∙ B.record_of_is in
    (sym (length-take-le n bytes A.within) ∙ ap length fronts ∙ length-take-le m other B.within, fronts)

-- what was read is written back as exactly the bytes used
pub read_written : (bytes : List ℕ) (n : ℕ) (q : Found) (old : List ℕ) (r : Result ℕ Refusal) (new : List ℕ)
    → ((k : ℕ) → get_or bytes k 0 < 256) → ReadsRecord bytes q → q.answer ≡ Ok n → WritesRecord q.plan old r new → n ≤ length old
    → (r ≡ Ok n) × (new ≡ take n bytes ++ drop n old)
read_written bytes n q old r new small R e W room =
    let A = read_accepts bytes n q small R e in
    let size : length (encoded q.plan) ≡ n = ap length A.record_of_is ∙ length-take-le n bytes A.within in
    let fits : first (room_checks (length (encoded q.plan)) old) ≡ 0 = rw (le-ltb (length old) (length (encoded q.plan)) (omega arith)) in
    let none = first_passed (plan_checks q.plan) (room_checks (length (encoded q.plan)) old) refl A.judged ∙ fits in (
      tells_amount_injective r (Ok n)
          (W.answer ∙ sym (told_passed (write_checks q.plan old) (length (encoded q.plan)) none) ∙ ap (λ (k : ℕ). (0, k)) size),
      W.bytes
          ∙ sym (when_passed (encoded q.plan ++ drop (length (encoded q.plan)) old) old none)
          ∙ (λ i. A.record_of_is i ++ drop (size i) old),
    )

-- both marks are admitted, and each is its form's
mark_admitted : (counted : Bool) → not (eqb (mark_of counted) 0x50 || eqb (mark_of counted) 0x51) ≡ false
mark_admitted true = refl
mark_admitted false = refl

none_behind : (b : Bool) → (b && false) ≡ false
none_behind true = refl
none_behind false = refl

-- the point count that a record carries is its plan's
count_goes : (counted : Bool) (n points : ℕ) (bytes : List ℕ) → cond counted (eqb points n) true ≡ true
    → (ltb 0 (length (counting counted points ++ bytes)) && not (cond counted (eqb (get_or (counting counted points ++ bytes) 0 0) n) true)) ≡ false
count_goes true n points bytes e = rw e (none_behind (ltb 0 (length (points ∷ bytes))))
count_goes false n points bytes e = none_behind (ltb 0 (length bytes))

-- a body of either form is decoded to the plan
form_back : (counted leading : Bool) (shape : Shape) (plan : Plan) (rest : List ℕ) → Sized plan → Roomy shape
    → (let bytes = (counting counted plan.points ++ body_of leading shape plan) ++ rest in
    cond counted (decoded leading shape plan.chip plan.table (get_or bytes 0 0) (drop 1 bytes)) (decoded leading shape plan.chip plan.table 0 bytes)
    ≡ own_of shape (cond counted plan.points 0) plan)
form_back true leading shape plan rest S p = body_back leading shape plan.points plan rest S p
form_back false leading shape plan rest S p = body_back leading shape 0 plan rest S p

-- what a plan's count passed
goes : (chip : Chip) (plan : Plan) → points_pass chip plan ≡ true → goes_with (layout_of chip plan.table) plan.points ≡ true
unfolding points_pass
goes chip plan e = e

-- a plan's record, with whatever bytes stand behind it
record_read : (chip : Chip) (plan : Plan) (rest : List ℕ) (q : Found) → Sized plan → chip_of plan.chip ≡ Some chip
    → first (plan_checks plan) ≡ 0 → ReadsRecord (record_of chip plan ++ rest) q
    → (q.answer ≡ Ok (length (record_of chip plan)))
    × (q.plan ≡ own_of (shape_of chip plan.table) (cond (layout_of chip plan.table).counted plan.points 0) plan)
record_read chip plan rest q S e accepts R =
    let bytes = record_of chip plan ++ rest in
    let l = layout_of chip plan.table in
    let own = own_of l.shape (cond l.counted plan.points 0) plan in
    let accepted = passed_plan chip plan e accepts in
    let has = accepted.has in
    let long : body_length chip ≤ length (body_in bytes) =
    omega (arith, body_of_plan chip plan S has, length-append (record_body chip plan) rest) in
    let body = body_of l.leading l.shape plan in
    let apart : body_in bytes ≡ counting l.counted plan.points ++ (body ++ rest) =
    append_assoc (counting l.counted plan.points) body rest in
    let count : count_out l (body_in bytes) ≡ false =
    ap (count_out l) apart ∙ count_goes l.counted l.speeds plan.points (body ++ rest) (goes chip plan accepted.points) in
    let C : Complete bytes =
    record {
      marked = record {
        long = omega arith;
        mark = mark_admitted l.counted;
        form = rw (e, eq-eqb (mark_of l.counted) (mark_of l.counted) refl);
      };
      whole = record { chip = chip; named = e; has = has; count = count; long = long };
    } in
    let back = form_back l.counted l.leading l.shape plan rest S (table_roomy chip plan.table) in
    let none : first (record_checks bytes) ≡ 0 =
    sym (complete_judged bytes C) ∙ ap (λ (p : Plan). first (plan_checks p)) back ∙ own_judged chip plan S e ∙ accepts in
    let used_bytes : when_known (chip_of plan.chip) record_length 0 ≡ length (record_of chip plan) = rw e (sym (record_of_plan chip plan S has)) in
    let plan_in_is : plan_in bytes ≡ own = rw e back in (
      tells_amount_injective q.answer (Ok (length (record_of chip plan)))
          (R.answer
          ∙ sym (told_passed (record_checks bytes) (when_known (chip_of plan.chip) record_length 0) none)
          ∙ ap (λ (k : ℕ). (0, k)) used_bytes),
      R.plan ∙ sym (when_passed (plan_in bytes) no_plan none) ∙ plan_in_is,
    )

named_read : (chip : Chip) (plan : Plan) (rest : List ℕ) (q : Found) → Sized plan → chip_of plan.chip ≡ Some chip
    → first (plan_checks plan) ≡ 0 → ReadsRecord (encoded plan ++ rest) q → (q.answer ≡ Ok (length (encoded plan))) × (q.plan ≡ own plan)
named_read chip plan rest q S e accepts = rw e (record_read chip plan rest q S e accepts)

-- what is written is read back: all of it, and the plan with the other chip's values zero
pub written_read : (plan : Plan) (old : List ℕ) (n : ℕ) (r : Result ℕ Refusal) (new : List ℕ) (q : Found) → Sized plan
    → WritesRecord plan old r new → r ≡ Ok n → ReadsRecord new q → (q.answer ≡ Ok n) × (q.plan ≡ own plan)
written_read plan old n r new q S W e R =
    let t = told_of (write_checks plan old) (length (encoded plan)) n r e W.answer in
    let accepts = first_front (plan_checks plan) (room_checks (length (encoded plan)) old) refl t.0 in
    let known = chip_known plan.chip (accepted_known plan accepts) in
    let wrote : new ≡ encoded plan ++ drop (length (encoded plan)) old = W.bytes ∙ sym (when_passed _ old t.0) in
    let back = named_read known.chip plan (drop (length (encoded plan)) old) q S known.named accepts (rw wrote at R) in
    (back.0 ∙ ap Ok (sym t.1), back.1)

-- "only such plans come back equal from their record": those whose other chip's values are zero
pub comes_back : (plan : Plan) (old : List ℕ) (n : ℕ) (r : Result ℕ Refusal) (new : List ℕ) (q : Found) → Sized plan
    → WritesRecord plan old r new → r ≡ Ok n → ReadsRecord new q
    → (own plan ≡ plan → q.plan ≡ plan) × (q.plan ≡ plan → own plan ≡ plan)
comes_back plan old n r new q S W e R =
    let back = (written_read plan old n r new q S W e R).1 in
    (λ zero. back ∙ zero, λ equal. sym back ∙ equal)
