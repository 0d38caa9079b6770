-- What an accepted record gives: its bytes are all there, its plan is accepted, and its text is short.
-- Assumes nothing.
use Prim.Native.Nat.{ℕ, ◌+◌, ◌*◌, ◌≤◌, ◌<◌}
use native.Mathlib.Omega.{arith}
use mathlib.Core.Path.{◌≡◌, ap, subst, ◌∙◌}
use mathlib.Core.Bool.{So}
use mathlib.Core.List.{List, []}
use borrow.Author.Tests.{leb-true}
use lib.Dec.{leb}
use lib.ListN.{length, length-drop}
use Rattle.refusal.specs.Checks.{first}
use Rattle.pages.specs.declared.Chip.{Chip}
use Rattle.pages.specs.declared.Layout.{Layout}
use Rattle.pages.specs.declared.Shape.{Shape}
use Rattle.pages.specs.declared.Shape.TheVariants.{Slope, Steps}
use Rattle.pages.specs.Sheets.{most_points, room}
use Rattle.pages.specs.Cards.{chip_of, when_known, shape_of, layout_of}
use Rattle.pages.proofs.Every.{both}
use Rattle.pages.proofs.Sound.{counts}
use Rattle.pages.proofs.Numbers.{chip_number_is, chip_digit}
use Rattle.pages.proofs.Tables.{table_pointed, table_digits, table_brief}
use Rattle.curves.specs.declared.Plan.{Plan}
use Rattle.plans.specs.Promises.{plan_checks}
use Rattle.records.specs.Records.{record_length, chip_number_in, table_number_in, body_in, plan_in}
use Rattle.records.proofs.Answers.{by_chip, by_table, by_sized, Complete, record_plan, complete_judged}
use Rattle.records.proofs.Encoding.{body_of_table, body_of_shape}
use Rattle.records.proofs.RoundTrip.{whole_record}
use Rattle.scripts.specs.Scripts.{script_of, writes_in, script_for}
use Rattle.scripts.proofs.Lengths.{script_of_table}
use Rattle.translation.specs.Text.{refusal_in, used_in}
use Rattle.translation.specs.Parts.{Printable}

-- a record of `used` bytes and its plan. A header line takes at most 35 bytes, and each write 6: at most ten bytes of text for each of the record.
pub record Accepted (bytes : List ℕ) (used : ℕ) (plan : Plan) : Type 0 where
  pub whole : used ≤ length bytes
  pub least : 9 ≤ used
  pub accepts : Printable plan
  pub chip : plan.chip < 10
  pub table : plan.table < 100
  pub short : 35 + 6 * length (script_for plan) ≤ 10 * used

-- no body is shorter than that of a slope with two points
least_room : (shape : Shape) → So (counts shape) → 5 ≤ (room shape).0 + (room shape).1
least_room (Slope points full) t = omega (arith, leb-true 2 points (both (leb 2 points) (leb points most_points) t).0)
least_room Steps t = omega arith

module _ (bytes : List ℕ) (C : Complete bytes) (none : first (plan_checks (record_plan bytes C)) ≡ 0) where
  abbrev chip : Chip
  chip = C.whole.chip

  abbrev shape : Shape
  shape = shape_of chip (table_number_in bytes)

  abbrev facts : Layout
  facts = layout_of chip (table_number_in bytes)

  abbrev plan : Plan
  plan = record_plan bytes C

  numbered : plan.chip ≡ chip_number_in bytes
  numbered = by_chip facts (chip_number_in bytes) (table_number_in bytes) (body_in bytes)

  tabled : plan.table ≡ table_number_in bytes
  tabled = by_table facts (chip_number_in bytes) (table_number_in bytes) (body_in bytes)

  writes : length (script_for plan) ≡ writes_in facts
  writes =
      ap (λ (n : ℕ). length (when_known (chip_of n) (λ c. script_of c plan) [])) numbered
      ∙ rw C.whole.named
      (subst (λ (t : ℕ). length (script_of chip plan) ≡ writes_in (layout_of chip t)) tabled
      (script_of_table chip plan (by_sized facts (chip_number_in bytes) (table_number_in bytes) (body_in bytes))))

  complete : Accepted bytes (record_length chip) plan
  complete =
      let long = body_of_shape chip (table_number_in bytes) C.whole.has in
      let size = body_of_table chip (table_number_in bytes) C.whole.has in
      let short = table_brief chip (table_number_in bytes) C.whole.has in
      record {
        whole = omega (arith, length-drop 4 bytes, C.whole.long, C.marked.long);
        least = omega (arith, least_room shape (table_pointed chip (table_number_in bytes)), long, size);
        accepts = record { checks = none; writes = omega (arith, writes, short.1) };
        chip = omega (arith, numbered, chip_number_is (chip_number_in bytes) chip C.whole.named, chip_digit chip);
        table = omega (arith, tabled, table_digits chip (table_number_in bytes) C.whole.has);
        short = omega (arith, writes, short.0, size);
      }

pub accepted : (bytes : List ℕ) → refusal_in bytes ≡ 0 → Accepted bytes (used_in bytes) (plan_in bytes)
unfolding refusal_in used_in
accepted bytes e =
    let C = whole_record bytes e in
    rw C.whole.named (complete bytes C (complete_judged bytes C ∙ e))
