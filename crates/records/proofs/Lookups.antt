-- A look-up tells the chip and how its table is laid out, or the first check that fails; and what is taken by a layout is what is promised of a body.
-- Assumes nothing.
use Rattle.std.specs.Prelude.{Option, Ok, Err, Some, None}
use Prim.Native.Nat.{ℕ}
use native.Mathlib.Omega.{arith}
use mathlib.Core.Path.{◌≡◌, refl, ap, ◌∙◌}
use mathlib.Core.Bool.{Bool, true, false, cond}
use mathlib.Core.List.{List, [], ◌∷◌, ◌++◌}
use lib.Dec.{eqb, ltb}
use lib.ListN.{length}
use Rattle.refusal.specs.declared.Refusal.{Refusal}
use Rattle.refusal.specs.declared.Refusal.TheVariants.{NoSuchChip, NoSuchTable}
use Rattle.refusal.specs.Refusals.{number_of}
use Rattle.refusal.specs.Checks.{Check, first, told}
use Rattle.refusal.proofs.Passed.{same_told}
use Rattle.pages.specs.declared.Chip.{Chip}
use Rattle.pages.specs.declared.Layout.{Layout}
use Rattle.pages.specs.Cards.{chip_of, when_known, has_table, layout_of}
use Rattle.curves.specs.declared.Plan.{Plan}
use Rattle.records.specs.declared.Found.{Found}
use Rattle.records.specs.Records.{body_size, body_length, no_plan, plan_by, plan_of}
use Rattle.records.specs.Parts.{looked_at, fill_by, TakesBy}
use Rattle.records.specs.Promises.{count_out, table_checks, body_checks, TakesBody}
use Rattle.records.proofs.Encoding.{body_of_table}

-- a chip that has the table
pub record Has (number table : ℕ) (layout : Layout) : Type 0 where
  pub chip : Chip
  pub named : chip_of number ≡ Some chip
  pub has : has_table chip table ≡ true
  pub laid : layout ≡ layout_of chip table

pub looked_has : (number table : ℕ) (layout : Layout) → Ok layout ≡ looked_at number table → Has number table layout
looked_has number table layout e = by_name (chip_of number) refl e
  where
    by_table : (chip : Chip) → chip_of number ≡ Some chip → (has : Bool) → has_table chip table ≡ has
        → Ok layout ≡ cond has (Ok (layout_of chip table)) (Err NoSuchTable) → Has number table layout
    by_table chip n true h q = record { chip = chip; named = n; has = h; laid = cc }
    by_table chip n false h q = let z : ◌≡◌ {A = ℕ} 0 1 = cc in absurd (omega arith)

    by_name : (named : Option Chip) → chip_of number ≡ named
        → Ok layout
        ≡ when_known named (λ c. cond (has_table c table) (Ok (layout_of c table)) (Err NoSuchTable)) (Err NoSuchChip)
        → Has number table layout
    by_name (Some chip) n q = by_table chip n (has_table chip table) refl q
    by_name None n q = let z : ◌≡◌ {A = ℕ} 0 1 = cc in absurd (omega arith)

-- or none does, and the checks say which of the two is missing, whatever is checked behind them
pub looked_refused : (number table : ℕ) (refusal : Refusal) (more : List Check) → Err refusal ≡ looked_at number table
    → number_of refusal ≡ first (table_checks number table ++ more)
looked_refused number table refusal more e = by_name (chip_of number) refl e
  where
    by_table : (chip : Chip) → chip_of number ≡ Some chip → (has : Bool) → has_table chip table ≡ has
        → Err refusal ≡ cond has (Ok (layout_of chip table)) (Err NoSuchTable)
        → number_of refusal ≡ first (table_checks number table ++ more)
    by_table chip n true h q = let z : ◌≡◌ {A = ℕ} 0 1 = cc in absurd (omega arith)
    by_table chip n false h q = let same : refusal ≡ NoSuchTable = cc in rw (same, n, h)

    by_name : (named : Option Chip) → chip_of number ≡ named
        → Err refusal
        ≡ when_known named (λ c. cond (has_table c table) (Ok (layout_of c table)) (Err NoSuchTable)) (Err NoSuchChip)
        → number_of refusal ≡ first (table_checks number table ++ more)
    by_name (Some chip) n q = by_table chip n (has_table chip table) refl q
    by_name None n q = let same : refusal ≡ NoSuchChip = cc in rw (same, n)

-- what is taken by the layout of a table that the chip has is what is promised of a body
module _ (number table : ℕ) (layout : Layout) (H : Has number table layout) (bytes : List ℕ) where
  size_same : body_size layout ≡ body_length H.chip
  size_same = ap body_size H.laid ∙ body_of_table H.chip table H.has

  fill_same : first (fill_by layout bytes) ≡ first (body_checks number table bytes)
  fill_same =
      ap (λ (l : Layout). first ((count_out l bytes, 16) ∷ (ltb (length bytes) (body_size l), 5) ∷ [])) H.laid
      ∙ ap (λ (n : ℕ). first ((count_out (layout_of H.chip table) bytes, 16) ∷ (ltb (length bytes) n, 5) ∷ [])) (body_of_table H.chip table H.has)
      ∙ rw (H.named, H.has)

  pub taken_by : (r : Found) → TakesBy layout number table bytes r → TakesBody number table bytes r
  taken_by r P =
      let used : body_size layout ≡ when_known (chip_of number) body_length 0 = rw H.named size_same in
      let read : plan_by layout number table bytes ≡ plan_of number table bytes =
      rw H.named (ap (λ (l : Layout). plan_by l number table bytes) H.laid) in
      record {
        answer =
            P.answer
            ∙ same_told 0 (body_size layout) (fill_by layout bytes) (body_checks number table bytes) fill_same
            ∙ ap (told (body_checks number table bytes)) used;
        plan =
            P.plan
            ∙ ap (λ (n : ℕ). cond (eqb n 0) (plan_by layout number table bytes) no_plan) fill_same
            ∙ ap (λ (p : Plan). cond (eqb (first (body_checks number table bytes)) 0) p no_plan) read;
      }
