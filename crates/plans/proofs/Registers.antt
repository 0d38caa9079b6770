-- The writable bits of a table's registers, in register order, are a body; the plan read from it asks what the registers ask.
-- Assumes nothing.
use Prim.Native.Nat.{ℕ, zero, suc, ◌+◌, ◌-◌, ◌≤◌, ◌<◌}
use native.Mathlib.Omega.{arith}
use mathlib.Core.Path.{◌≡◌, refl, sym, ap, ap₂, ◌∙◌}
use mathlib.Core.Bool.{So, false}
use mathlib.Core.List.{List, ◌∷◌, map}
use lib.ListN.{length, get_or, take, drop, length-append, length-drop}
use lib.Seq.{take_at, drop_at, take_all}
use Rattle.pages.specs.declared.Chip.{Chip}
use Rattle.pages.specs.declared.Register.{Register}
use Rattle.pages.specs.declared.Shape.{Shape}
use Rattle.pages.specs.declared.Shape.TheVariants.{Slope, Steps}
use Rattle.pages.specs.Rows.{Table, positions, from, column}
use Rattle.pages.specs.Sheets.{longest, room, register_in}
use Rattle.pages.specs.Cards.{sheet_of, row_of, has_table, table_of, shape_of, worth}
use Rattle.pages.proofs.Columns.{column_length, column_at}
use Rattle.pages.proofs.Tables.{table_pointed, table_sized, register_at_is}
use Rattle.curves.specs.Curves.{step_rule, words}
use Rattle.curves.specs.Planned.{Curve, planned, values_at, asks}
use Rattle.curves.proofs.Registers.{in_a_row, planned_count}
use Rattle.curves.proofs.Filled.{Roomy, roomy}
use Rattle.bodies.specs.Bodies.{decoded}
use Rattle.bodies.proofs.Laws.{settings_taken, points_taken}
use Rattle.plans.specs.Plans.{held}
use Rattle.plans.specs.Parts.{worth_at}

module _ (chip : Chip) (chip_number number : ℕ) (image : List ℕ) where
  abbrev table : Table
  table = table_of chip number

  abbrev bytes : List ℕ
  bytes = column longest (λ k. worth_at (register_in (sheet_of chip) number k) image)

  -- a place of the body holds the writable bits of its register
  at_register : (k : ℕ) → k < longest → k < length (positions table) → get_or bytes k 0 ≡ worth chip image (get_or (positions table) k 0)
  unfolding row_of
  at_register k h l =
      column_at longest (λ j. worth_at (register_in (sheet_of chip) number j) image) k h
      ∙ ap (λ (r : Register). worth_at r image) (register_at_is chip number k l)

  -- and so do n places in a row
  in_column : (first n : ℕ) → first + n ≤ longest → first + n ≤ length (positions table)
      → values_at bytes (from first n) ≡ map (worth chip image) (values_at (positions table) (from first n))
  in_column first zero h l = refl
  in_column first (suc n) h l =
      ap₂ (λ (b : ℕ) (m : List ℕ). b ∷ m) (at_register first (omega arith) (omega arith)) (in_column (suc first) n (omega arith) (omega arith))

  -- the settings stand in front
  front : (n : ℕ) → n ≤ longest → length table.settings ≡ n → values_at bytes (from 0 n) ≡ map (worth chip image) table.settings
  front n h e =
      let long = length-append table.settings table.speeds in
      in_column 0 n (omega arith) (omega (arith, long))
      ∙ ap (map (worth chip image)) (in_a_row (positions table) 0 n (omega (arith, long)) ∙ take_at table.settings table.speeds n e)

  -- and the speeds behind them
  back : (n m : ℕ) → n + m ≤ longest → length table.settings ≡ n → length table.speeds ≡ m
      → values_at bytes (from n m) ≡ map (worth chip image) table.speeds
  back n m h e f =
      let long = length-append table.settings table.speeds in
      in_column n m h (omega (arith, long))
      ∙ ap (map (worth chip image))
      (in_a_row (positions table) n m (omega (arith, long))
      ∙ ap (take m) (drop_at table.settings table.speeds n e) ∙ take_all m table.speeds (omega arith))

  -- so a body of the registers' bits asks what the registers of the table ask
  pub registers_ask : (t : ℕ) → So (has_table chip number)
      → asks (shape_of chip number) (planned (shape_of chip number) (decoded false (shape_of chip number) chip_number number 0 bytes)) t
      ≡ asks (shape_of chip number) (held chip number image) t
  registers_ask t has =
      by_shape (shape_of chip number) (table_sized chip number has) (roomy (shape_of chip number) (table_pointed chip number))
    where
      by_shape : (shape : Shape) → (length table.settings ≡ (room shape).0) × (length table.speeds ≡ (room shape).1) → Roomy shape
          → asks shape (planned shape (decoded false shape chip_number number 0 bytes)) t ≡ asks shape (held chip number image) t
      by_shape (Slope n full) long p =
          let all = column_length longest (λ k. worth_at (register_in (sheet_of chip) number k) image) in
          let settings =
          settings_taken false n bytes p (omega (arith, all, p))
          ∙ sym (in_a_row bytes 0 (n + 1) (omega (arith, all, p))) ∙ front (n + 1) (omega (arith, p)) long.0 in
          let speeds =
          points_taken n (n + 1) bytes p (omega (arith, all, p))
          ∙ sym (in_a_row bytes (n + 1) n (omega (arith, all, p))) ∙ back (n + 1) n (omega (arith, p)) long.0 long.1 in
          ap (λ (curve : Curve). asks (Slope n full) curve t) (λ i. record { settings = settings i; speeds = speeds i })
      by_shape Steps long p =
          sym (planned_count (decoded false Steps chip_number number 0 bytes) t)
          ∙ ap₂ (λ (bounds counts : List ℕ). step_rule bounds (words counts) t) (front 4 (omega arith) long.0) (back 4 10 (omega arith) long.0 long.1)

-- a part of a slice up to its end
pub to_the_end : (l : List ℕ) (k : ℕ) → take (length l - k) (drop k l) ≡ drop k l
to_the_end l k = take_all (length l - k) (drop k l) (omega (arith, length-drop k l))
