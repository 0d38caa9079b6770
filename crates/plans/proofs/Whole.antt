-- "All fan table registers have mask FFh", of chips 1 and 2: there 6 and 7 ask for the orders alone, and what a table holds is its registers' bytes.
-- Assumes nothing.
use Prim.Native.Nat.{ℕ, suc, ◌+◌, ◌<◌, ◌^◌, suc-le-suc}
use native.Mathlib.Omega.{arith}
use mathlib.Core.Path.{◌≡◌, refl, sym, ap, ap₂, ◌∙◌}
use mathlib.Core.Bool.{Bool, true, false, So, ◌&&◌}
use mathlib.Core.List.{List, [], ◌∷◌, map}
use lib.Bits.{bit_and}
use lib.ListN.{length, get_or, length-append, get_or-append}
use lib.Seq.{get_or-append-add}
use Rattle.pages.specs.declared.Chip.{Chip}
use Rattle.pages.specs.Cards.{row_of, has_table, table_of, shape_of, layout_of, worth}
use Rattle.pages.proofs.Tables.{whole_mask, byte_fits}
use Rattle.curves.specs.declared.Plan.{Plan}
use Rattle.curves.specs.Planned.{values_at, temperatures_in_order, speeds_in_order}
use Rattle.curves.specs.Values.{Within, Typed}
use Rattle.curves.proofs.Owned.{all_at}
use Rattle.plans.specs.Plans.{held, temperatures_pass, speeds_pass}
use Rattle.plans.proofs.Fits.{settings_whole, speeds_whole}

and_true : (b : Bool) → (b && true) ≡ b
and_true true = refl
and_true false = refl

module _ (chip : Chip) (plan : Plan) (typed : Typed plan) (has : So (has_table chip plan.table)) (whole : (layout_of chip plan.table).whole ≡ true) where
  pub whole_temperatures : temperatures_pass chip plan ≡ temperatures_in_order (shape_of chip plan.table) plan
  unfolding temperatures_pass
  whole_temperatures =
      ap (λ (b : Bool). temperatures_in_order (shape_of chip plan.table) plan && b) (settings_whole chip plan typed has whole)
      ∙ and_true (temperatures_in_order (shape_of chip plan.table) plan)

  pub whole_speeds : speeds_pass chip plan ≡ speeds_in_order (shape_of chip plan.table) plan
  unfolding speeds_pass
  whole_speeds =
      ap (λ (b : Bool). speeds_in_order (shape_of chip plan.table) plan && b) (speeds_whole chip plan typed has whole)
      ∙ and_true (speeds_in_order (shape_of chip plan.table) plan)

-- a byte of which every bit counts
all_worth : (chip : Chip) (image ps : List ℕ) → Within 8 image → ((k : ℕ) → k < length ps → (row_of chip (get_or ps k 0)).writable ≡ 0xFF)
    → map (worth chip image) ps ≡ values_at image ps
all_worth chip image [] w m = refl
all_worth chip image (p ∷ ps) w m =
    ap₂ ◌∷◌ (ap (bit_and (get_or image p 0)) (m 0 (omega arith)) ∙ byte_fits (get_or image p 0) (all_at (λ b. b < 2 ^ 8) image w (omega arith) p))
    (all_worth chip image ps w (λ k h. m (suc k) (suc-le-suc h)))

pub whole_held : (chip : Chip) (table : ℕ) (image : List ℕ) → Within 8 image → (layout_of chip table).whole ≡ true
    → held chip table image ≡ record { settings = values_at image (table_of chip table).settings; speeds = values_at image (table_of chip table).speeds }
whole_held chip table image w whole =
    let settings = (table_of chip table).settings in
    let speeds = (table_of chip table).speeds in
    let long = length-append settings speeds in
    let in_settings = all_worth chip image settings w
    (λ k h. ap (λ (p : ℕ). (row_of chip p).writable) (sym (get_or-append settings speeds 0 k h)) ∙ whole_mask chip table whole k (omega (arith, long))) in
    let in_speeds = all_worth chip image speeds w
    (λ k h.
    ap (λ (p : ℕ). (row_of chip p).writable) (sym (get_or-append-add settings speeds k 0)) ∙ whole_mask chip table whole (length settings + k) (omega (arith, long))) in
    λ i. record { settings = in_settings i; speeds = in_speeds i }
