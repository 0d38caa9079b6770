-- What a call answers beside its refusal number is small: no record has more than 22 bytes, no script more than 68 writes, no text more than 40,979 bytes.
-- Assumes nothing.
use Rattle.std.specs.Prelude.{Result, Option, Some, None}
use Rattle.pages.specs.declared.Chip.{Chip}
use Rattle.refusal.specs.declared.Refusal.{Refusal}
use Prim.Native.Nat.{ℕ, ◌*◌, ◌^◌, ◌≤◌, ◌<◌, min}
use native.Mathlib.Nat.{min-le_right}
use native.Mathlib.Omega.{arith}
use mathlib.Core.Path.{◌≡◌, refl, ap}
use mathlib.Core.Bool.{Bool, true, false, cond}
use mathlib.Core.List.{List, []}
use lib.Dec.{eqb}
use lib.ListN.{length}
use Rattle.refusal.specs.Answers.{tells_amount}
use Rattle.refusal.specs.Checks.{Check, first, told, room_checks}
use Rattle.pages.specs.Cards.{chip_of, when_known, layout_of}
use Rattle.curves.specs.declared.Plan.{Plan}
use Rattle.curves.specs.Values.{Sized}
use Rattle.records.specs.Records.{encoded, record_length, chip_number_in, no_plan, plan_by, plan_of}
use Rattle.records.specs.Promises.{WritesRecordBy}
use Rattle.records.proofs.Answers.{by_sized}
use Rattle.records.proofs.Encoding.{length_short, record_short}
use Rattle.scripts.specs.Scripts.{script_of, script_for}
use Rattle.scripts.specs.Promises.{ScriptsBy}
use Rattle.pages.specs.Sheets.{longest}
use Rattle.scripts.proofs.Lengths.{script_short}
use Rattle.plays.specs.Promises.{PlaysBy}
use Rattle.translation.specs.Text.{text_of}
use Rattle.translation.specs.Promises.{Translates}
use Rattle.translation.proofs.Bound.{text_short}

-- a value that is told is the value or 0
pub told_within : {t : ℕ × ℕ} (checks : List Check) (value bound : ℕ) → value < bound → t ≡ told checks value → t.1 < bound
told_within {t} checks value bound h e = rw (ap (λ (u : ℕ × ℕ). u.1) e) (by_test (eqb (first checks) 0))
  where
    by_test : (b : Bool) → cond b value 0 < bound
    by_test true = h
    by_test false = omega arith

script_within : (plan : Plan) → length (script_for plan) ≤ 4 * longest
script_within plan = by_name (chip_of plan.chip)
  where
    by_name : (named : Option Chip) → length (when_known named (λ c. script_of c plan) []) ≤ 4 * longest
    by_name (Some chip) = script_short chip plan
    by_name None = omega arith

pub used_within : (bytes : List ℕ) → when_known (chip_of (chip_number_in bytes)) record_length 0 < 2 ^ 16
used_within bytes = by_name (chip_of (chip_number_in bytes))
  where
    by_name : (named : Option Chip) → when_known named record_length 0 < 2 ^ 16
    by_name (Some chip) = omega (arith, length_short chip)
    by_name None = omega arith

-- the plan in a body has arrays as long as its type says
body_sized : (chip table : ℕ) (body : List ℕ) → Sized (plan_of chip table body)
body_sized chip table body = by_name (chip_of chip)
  where
    by_name : (named : Option Chip) → Sized (when_known named (λ c. plan_by (layout_of c table) chip table body) no_plan)
    by_name (Some c) = by_sized (layout_of c table) chip table body
    by_name None = record { temperatures = refl; duties = refl; bounds = refl; counts = refl }

-- so what a call counts has room above the refusal number
pub record_room : (chip table : ℕ) (body : List ℕ) {checks : List Check} {old new : List ℕ} {r : Result ℕ Refusal}
    → WritesRecordBy checks (plan_of chip table body) old r new → (tells_amount r).1 < 2 ^ 56
record_room chip table body {checks} p =
    let plan = plan_of chip table body in
    told_within checks (length (encoded plan)) (2 ^ 56) (omega (arith, record_short plan (body_sized chip table body))) p.answer

pub script_room : (plan : Plan) {checks : List Check} {old new : List ℕ} {r : Result ℕ Refusal} → ScriptsBy checks plan old r new → (tells_amount r).1 < 2 ^ 56
script_room plan {checks} p = told_within checks (length (script_for plan)) (2 ^ 56) (omega (arith, script_within plan)) p.answer

pub play_room : (plan : Plan) (count : ℕ) {checks : List Check} {old new : List ℕ} {r : Result ℕ Refusal} → PlaysBy checks plan old count r new
    → (tells_amount r).1 < 2 ^ 56
play_room plan count {checks} p =
    told_within checks (min count (length (script_for plan))) (2 ^ 56)
    (omega (arith, script_within plan, min-le_right count (length (script_for plan)))) p.answer

pub text_room : {input old new : List ℕ} {r : Result ℕ Refusal} → Translates input old r new → (tells_amount r).1 < 2 ^ 56
text_room {input} {old} p =
    told_within (room_checks (length (text_of input)) old) (length (text_of input)) (2 ^ 56) (omega (arith, text_short input)) p.answer
