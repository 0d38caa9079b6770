-- Registers asked one after the other whether they hold a plan's values, against the lists of its table; and where all bits are writable every byte fits.
-- Assumes nothing.
use Prim.Native.Nat.{ℕ, zero, suc, ◌+◌, ◌-◌, ◌≤◌, ◌<◌, suc-le-suc}
use native.Mathlib.Nat.{zero-add, add-zero, add-suc, suc-add, suc_inj}
use native.Mathlib.Omega.{arith}
use mathlib.Core.Path.{◌≡◌, refl, sym, ap, ap₂, ◌∙◌}
use mathlib.Core.Bool.{Bool, true, false, So, cond, ◌&&◌}
use mathlib.Core.List.{List, [], ◌∷◌}
use borrow.Author.Tests.{eq-eqb}
use lib.Bits.{bit_and}
use lib.Dec.{eqb}
use lib.ListN.{length, get_or, length-append, get_or-append}
use lib.Seq.{get_or-append-add}
use Rattle.pages.specs.declared.Chip.{Chip}
use Rattle.pages.specs.declared.Layout.{Layout}
use Rattle.pages.specs.declared.Register.{Register}
use Rattle.pages.specs.Rows.{positions, column}
use Rattle.pages.specs.Sheets.{longest, register_in}
use Rattle.pages.specs.Cards.{sheet_of, row_of, has_table, table_of, layout_of, shape_of, fits_at}
use Rattle.pages.proofs.Columns.{column_at}
use Rattle.pages.proofs.Tables.{table_pointed, table_sized, register_at_is, whole_mask, byte_fits}
use Rattle.curves.specs.declared.Plan.{Plan}
use Rattle.curves.specs.Planned.{temperatures_in_order, speeds_in_order}
use Rattle.curves.specs.Values.{Within, Sized, Typed}
use Rattle.curves.proofs.Filled.{roomy, planned_sized, planned_within}
use Rattle.bodies.specs.Bodies.{body}
use Rattle.plans.specs.Plans.{holdable, planned_for, temperatures_pass, speeds_pass}
use Rattle.plans.specs.Parts.{fit_from, plan_fits}

-- values in a column are asked as in their list
pub fit_column : (register : ℕ → Register) (values : List ℕ) (place n : ℕ) → n ≤ longest - place
    → fit_from register (column longest (λ k. get_or values k 0)) place n ≡ fit_from register values place n
fit_column register values place zero h = refl
fit_column register values place (suc n) h =
    ap₂ ◌&&◌ (ap (λ (b : ℕ). eqb (bit_and b (register place).masks.writable) b) (column_at longest (λ k. get_or values k 0) place (omega arith)))
    (fit_column register values (suc place) n (omega arith))

-- registers from a place on, and the values of these places
fit_places : (chip : Chip) (register : ℕ → Register) (values : List ℕ) (place : ℕ) (ps vs : List ℕ) → length ps ≡ length vs
    → ((k : ℕ) → k < length ps → (register (place + k)).masks.writable ≡ (row_of chip (get_or ps k 0)).writable)
    → ((k : ℕ) → k < length ps → get_or values (place + k) 0 ≡ get_or vs k 0)
    → fit_from register values place (length ps) ≡ holdable chip ps vs
fit_places chip register values place [] [] e m v = refl
fit_places chip register values place [] (x ∷ vs) e m v = cc
fit_places chip register values place (p ∷ ps) [] e m v = cc
fit_places chip register values place (p ∷ ps) (x ∷ vs) e m v =
    let here : place + 0 ≡ place = add-zero place in
    let next : (k : ℕ) → place + suc k ≡ suc place + k = λ k. add-suc place k ∙ sym (suc-add place k) in
    let mask = ap (λ (j : ℕ). (register j).masks.writable) (sym here) ∙ m 0 (omega arith) in
    let value = ap (λ (j : ℕ). get_or values j 0) (sym here) ∙ v 0 (omega arith) in
    ap₂ ◌&&◌ (ap₂ (λ (y w : ℕ). eqb (bit_and y w) y) value mask)
    (fit_places chip register values (suc place) ps vs (suc_inj e)
    (λ k h. ap (λ (j : ℕ). (register j).masks.writable) (sym (next k)) ∙ m (suc k) (suc-le-suc h))
    (λ k h. ap (λ (j : ℕ). get_or values j 0) (sym (next k)) ∙ v (suc k) (suc-le-suc h)))

-- where all bits are writable every byte fits
all_fit : (chip : Chip) (ps vs : List ℕ) → length ps ≡ length vs → ((k : ℕ) → k < length ps → (row_of chip (get_or ps k 0)).writable ≡ 0xFF) → Within 8 vs
    → holdable chip ps vs ≡ true
all_fit chip [] [] e m w = refl
all_fit chip [] (x ∷ vs) e m w = cc
all_fit chip (p ∷ ps) [] e m w = cc
all_fit chip (p ∷ ps) (x ∷ vs) e m w =
    let here : fits_at chip p x ≡ true =
    eq-eqb (bit_and x (row_of chip p).writable) x (ap (bit_and x) (m 0 (omega arith)) ∙ byte_fits x w.0) in
    ap₂ ◌&&◌ here (all_fit chip ps vs (suc_inj e) (λ k h. m (suc k) (suc-le-suc h)) w.1)

-- a plan fills its table: as many settings and as many speeds
module _ (chip : Chip) (plan : Plan) (sized : Sized plan) (has : So (has_table chip plan.table)) where
  pub settings_long : length (table_of chip plan.table).settings ≡ length (planned_for chip plan).settings
  settings_long = (table_sized chip plan.table has).0 ∙ sym (planned_sized (shape_of chip plan.table) plan sized (roomy (shape_of chip plan.table) (table_pointed chip plan.table))).0

  pub speeds_long : length (table_of chip plan.table).speeds ≡ length (planned_for chip plan).speeds
  speeds_long = (table_sized chip plan.table has).1 ∙ sym (planned_sized (shape_of chip plan.table) plan sized (roomy (shape_of chip plan.table) (table_pointed chip plan.table))).1

module _ (chip : Chip) (plan : Plan) (typed : Typed plan) (has : So (has_table chip plan.table)) where
  abbrev settings : List ℕ
  settings = (table_of chip plan.table).settings

  abbrev speeds : List ℕ
  speeds = (table_of chip plan.table).speeds

  abbrev wanted : List ℕ
  wanted = (planned_for chip plan).settings

  abbrev asked : List ℕ
  asked = (planned_for chip plan).speeds

  all_long : length (positions (table_of chip plan.table)) ≡ length settings + length speeds
  all_long = length-append settings speeds

  mask_at : (k : ℕ) → k < length settings + length speeds
      → (register_in (sheet_of chip) plan.table k).masks.writable ≡ (row_of chip (get_or (positions (table_of chip plan.table)) k 0)).writable
  unfolding row_of
  mask_at k h = ap (λ (r : Register). r.masks.writable) (register_at_is chip plan.table k (omega (arith, all_long)))

  in_settings : (k : ℕ) → k < length settings → get_or (positions (table_of chip plan.table)) k 0 ≡ get_or settings k 0
  in_settings k h = get_or-append settings speeds 0 k h

  in_speeds : (k : ℕ) → get_or (positions (table_of chip plan.table)) (length settings + k) 0 ≡ get_or speeds k 0
  in_speeds k = get_or-append-add settings speeds k 0

  -- where the table takes every bit nothing need be asked, else its registers are
  by_whole : (ps vs : List ℕ) (place : ℕ) → ((layout_of chip plan.table).whole ≡ true → holdable chip ps vs ≡ true)
      → fit_from (register_in (sheet_of chip) plan.table) (body (planned_for chip plan)) place (length ps) ≡ holdable chip ps vs
      → plan_fits chip plan (layout_of chip plan.table) place (length ps) ≡ holdable chip ps vs
  by_whole ps vs place all each = either (layout_of chip plan.table).whole all
    where
      either : (whole : Bool) → (whole ≡ true → holdable chip ps vs ≡ true)
          → cond whole true (fit_from (register_in (sheet_of chip) plan.table) (body (planned_for chip plan)) place (length ps)) ≡ holdable chip ps vs
      either true f = sym (f refl)
      either false f = each

  -- "at mask FFh every byte fits": a plan's values do
  pub settings_whole : (layout_of chip plan.table).whole ≡ true → holdable chip settings wanted ≡ true
  settings_whole t =
      all_fit chip settings wanted (settings_long chip plan typed.sized has)
      (λ k h. ap (λ (p : ℕ). (row_of chip p).writable) (sym (in_settings k h)) ∙ whole_mask chip plan.table t k (omega (arith, all_long)))
      (planned_within (shape_of chip plan.table) plan typed).0

  pub speeds_whole : (layout_of chip plan.table).whole ≡ true → holdable chip speeds asked ≡ true
  speeds_whole t =
      all_fit chip speeds asked (speeds_long chip plan typed.sized has)
      (λ k h.
      ap (λ (p : ℕ). (row_of chip p).writable) (sym (in_speeds k))
      ∙ whole_mask chip plan.table t (length settings + k) (omega (arith, all_long)))
      (planned_within (shape_of chip plan.table) plan typed).1

  pub settings_fit : plan_fits chip plan (layout_of chip plan.table) 0 (length settings) ≡ holdable chip settings wanted
  settings_fit =
      by_whole settings wanted 0 settings_whole
      (fit_places chip (register_in (sheet_of chip) plan.table) (body (planned_for chip plan)) 0 settings wanted (settings_long chip plan typed.sized has)
      (λ k h.
      ap (λ (j : ℕ). (register_in (sheet_of chip) plan.table j).masks.writable) (zero-add k)
      ∙ mask_at k (omega arith)
      ∙ ap (λ (p : ℕ). (row_of chip p).writable) (in_settings k h))
      (λ k h.
      ap (λ (j : ℕ). get_or (body (planned_for chip plan)) j 0) (zero-add k) ∙ get_or-append wanted asked 0 k (omega (arith, settings_long chip plan typed.sized has))))

  pub speeds_fit : plan_fits chip plan (layout_of chip plan.table) (length settings) (length speeds) ≡ holdable chip speeds asked
  speeds_fit =
      by_whole speeds asked (length settings) speeds_whole
      (fit_places chip (register_in (sheet_of chip) plan.table) (body (planned_for chip plan)) (length settings) speeds asked (speeds_long chip plan typed.sized has)
      (λ k h. mask_at (length settings + k) (omega arith) ∙ ap (λ (p : ℕ). (row_of chip p).writable) (in_speeds k))
      (λ k h. ap (λ (n : ℕ). get_or (body (planned_for chip plan)) (n + k) 0) (settings_long chip plan typed.sized has) ∙ get_or-append-add wanted asked k 0))

  -- what the tests of a plan say, once its table's layout is told
  module _ (l : Layout) (e : l ≡ layout_of chip plan.table) where
    pub temperatures_pass_is : (temperatures_in_order l.shape plan && plan_fits chip plan l 0 l.settings) ≡ temperatures_pass chip plan
    unfolding temperatures_pass
    temperatures_pass_is =
        ap (λ (k : Layout). temperatures_in_order k.shape plan && plan_fits chip plan k 0 k.settings) e
        ∙ ap (λ (b : Bool). temperatures_in_order (shape_of chip plan.table) plan && b) settings_fit

    pub speeds_pass_is : (speeds_in_order l.shape plan && plan_fits chip plan l l.settings l.speeds) ≡ speeds_pass chip plan
    unfolding speeds_pass
    speeds_pass_is =
        ap (λ (k : Layout). speeds_in_order k.shape plan && plan_fits chip plan k k.settings k.speeds) e
        ∙ ap (λ (b : Bool). speeds_in_order (shape_of chip plan.table) plan && b) speeds_fit
