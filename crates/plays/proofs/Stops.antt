-- Demand 3 of any chip whose page is sound, over any list of cuts, in one theorem: no arm for a chip, two for a shape. First by position; then on the
-- bus, which does at every stop what writes by position do.
-- Assumes nothing.
use Prim.Native.Nat.{ℕ, zero, suc, ◌≤◌}
use native.Mathlib.Omega.{arith}
use mathlib.Core.Path.{◌≡◌, refl, sym, ap, ap₂, subst, ◌∙◌}
use mathlib.Core.Bool.{So}
use mathlib.Core.List.{List, [], ◌∷◌, ◌++◌, map}
use lib.Bits.{bit_and}
use lib.ListN.{length, get_or, take}
use Rattle.pages.specs.declared.Chip.{Chip}
use Rattle.pages.specs.declared.Shape.{Shape}
use Rattle.pages.specs.declared.Shape.TheVariants.{Slope, Steps}
use Rattle.pages.specs.Banks.{aside_in}
use Rattle.pages.specs.Rows.{every, Table, masks_in, positions}
use Rattle.pages.specs.Cards.{sheet_of, banks_of, row_of, size_of, table_of, shape_of, worth}
use Rattle.pages.specs.Identity.{confirmed}
use Rattle.pages.proofs.Every.{both, every_append}
use Rattle.pages.proofs.Sound.{stands}
use Rattle.pages.proofs.Tables.{table_stands}
use Rattle.images.specs.Bytes.{placed, written}
use Rattle.images.proofs.Kept.{write_keeps_identity}
use Rattle.images.proofs.Laws.{stored_at_other}
use Rattle.curves.specs.declared.Plan.{Plan}
use Rattle.curves.specs.Orders.{fulls}
use Rattle.curves.specs.Planned.{Curve, asks, full_of, AsFast, slower}
use Rattle.plans.specs.Plans.{held, planned_for}
use Rattle.plans.proofs.Laws.{Accepted}
use Rattle.scripts.specs.Scripts.{Pair, writes, script, placements, script_of}
use Rattle.scripts.specs.Played.{laid, played, stops, last_of, touched}
use Rattle.scripts.specs.Rules.{Outside, Rule}
use Rattle.scripts.proofs.Bus.{beside, Same, same_refl, bus_plays, bus_stops, played_length}
use Rattle.scripts.proofs.Memory.{Memory, puts, AllElsewhere, elsewhere_writes, elsewhere_append}
use Rattle.scripts.proofs.Lengths.{script_some}
use Rattle.scripts.proofs.Prepared.{placements_stand}
use Rattle.scripts.proofs.Safe.{curve_in, asked, plays, never_slower, ends_planned}
use Rattle.plays.proofs.Rules.{rule_of}
use Rattle.plays.proofs.Played.{whole_take, laid_length, laid_puts, all_front, all_behind, table_apart}
use Rattle.plays.proofs.Fitting.{plan_fits_is, script_whole}

-- what a rule says of three curves, in the words of demand 3
told_of_rule : (shape : Shape) (stop old plan : Curve) (t : ℕ)
    → (rule_of shape).Fast (asked (rule_of shape) stop t) ((rule_of shape).slower (asked (rule_of shape) old t) (asked (rule_of shape) plan t))
    → AsFast shape (asks shape stop t) (slower shape (asks shape old t) (asks shape plan t))
told_of_rule (Slope points full) stop old plan t f = f
told_of_rule Steps stop old plan t f = f

full_script : (shape : Shape) (table : Table) (curve : Curve) → script (rule_of shape).full table curve ≡ script (full_of shape) table curve
full_script (Slope points full) table curve = refl
full_script Steps table curve = refl

-- writes elsewhere keep a byte
elsewhere_take : (q k : ℕ) (ws : List Pair) → AllElsewhere q ws → AllElsewhere q (take k ws)
elsewhere_take q zero ws h = tt
elsewhere_take q (suc k) [] h = tt
elsewhere_take q (suc k) (w ∷ ws) h = (h.0, elsewhere_take q k ws h.1)

laid_elsewhere : (chip : Chip) (q : ℕ) (ws : List Pair) (image : List ℕ) → AllElsewhere q ws → get_or (laid chip ws image) q 0 ≡ get_or image q 0
laid_elsewhere chip q [] image h = refl
laid_elsewhere chip q (w ∷ ws) image h =
    laid_elsewhere chip q ws (placed chip w.0 w.1 image) h.1
    ∙ stored_at_other (masks_in (row_of chip w.0)) w.0 w.1 image q h.0

stops_elsewhere : (chip : Chip) (q : ℕ) (ws : List Pair) (cuts image : List ℕ) → AllElsewhere q ws
    → get_or (stops (laid chip) ws image cuts) q 0 ≡ get_or image q 0
stops_elsewhere chip q ws [] image h = refl
stops_elsewhere chip q ws (k ∷ ks) image h =
    stops_elsewhere chip q ws ks (laid chip (take k ws) image) h ∙ laid_elsewhere chip q (take k ws) image (elsewhere_take q k ws h)

pub stops_length : (chip : Chip) (ws : List Pair) (cuts image : List ℕ) → length (stops (played chip) ws image cuts) ≡ length image
stops_length chip ws [] image = refl
stops_length chip ws (k ∷ ks) image = stops_length chip ws ks (played chip (take k ws) image) ∙ played_length chip (take k ws) image

-- no writes change what identity sees
pub played_keeps_identity : (chip : Chip) (ws : List Pair) (image : List ℕ) → confirmed chip (played chip ws image) ≡ confirmed chip image
played_keeps_identity chip [] image = refl
played_keeps_identity chip (w ∷ ws) image =
    played_keeps_identity chip ws (written chip w.0 w.1 image) ∙ write_keeps_identity chip w.0 w.1 image

-- a play more
pub stops_more : (play : List Pair → List ℕ → List ℕ) (ws : List Pair) (cuts : List ℕ) (image : List ℕ) (count : ℕ)
    → stops play ws image (cuts ++ (count ∷ [])) ≡ play (take count ws) (stops play ws image cuts)
stops_more play ws [] image count = refl
stops_more play ws (k ∷ ks) image count = stops_more play ws ks (play (take k ws) image) count

-- a table holds the same in two images that agree but for what a select changes
worth_same : (chip : Chip) (x y ps : List ℕ) → Same chip x y → So (every (stands (sheet_of chip)) ps) → map (worth chip x) ps ≡ map (worth chip y) ps
worth_same chip x y [] s t = refl
worth_same chip x y (p ∷ ps) s t =
    let parts = both (stands (sheet_of chip) p) (every (stands (sheet_of chip)) ps) t in
    ap₂ (λ (v : ℕ) (vs : List ℕ). v ∷ vs)
    (ap (λ (b : ℕ). bit_and b (row_of chip p).writable) (s.bytes p (beside chip p parts.0))) (worth_same chip x y ps s parts.1)

held_same : (chip : Chip) (table : ℕ) {x y : List ℕ} → Same chip x y → held chip table x ≡ held chip table y
held_same chip table {x} {y} s =
    let settings = (table_of chip table).settings in
    let speeds = (table_of chip table).speeds in
    let parts = every_append (stands (sheet_of chip)) settings speeds (table_stands chip table) in
    λ i. record { settings = worth_same chip x y settings s parts.0 i; speeds = worth_same chip x y speeds s parts.1 i }

module _ (chip : Chip) (plan : Plan) (accepted : Accepted chip plan) (old : List ℕ) (long : length old ≡ size_of chip) where
  abbrev table : Table
  table = table_of chip plan.table

  abbrev shape : Shape
  shape = shape_of chip plan.table

  abbrev rule : Rule
  rule = rule_of shape

  abbrev curve : Curve
  curve = planned_for chip plan

  rule_script : script rule.full table curve ≡ placements chip plan
  unfolding placements
  rule_script = full_script shape table curve

  -- what the image's registers hold is what a memory's do
  laid_stops : (cuts image : List ℕ) → length image ≡ size_of chip
      → worth chip (stops (laid chip) (placements chip plan) image cuts) ≡ plays (placements chip plan) (worth chip image) cuts
  laid_stops [] image l = refl
  laid_stops (k ∷ ks) image l =
      laid_stops ks (laid chip (take k (placements chip plan)) image) (laid_length chip (take k (placements chip plan)) image ∙ l)
      ∙ ap (λ (m : Memory). plays (placements chip plan) m ks)
      (laid_puts chip (take k (placements chip plan)) image (whole_take chip k (placements chip plan) (script_whole chip plan accepted)) l)

  asked_by_position : (cuts : List ℕ) (t : ℕ)
      → AsFast shape (asks shape (held chip plan.table (stops (laid chip) (placements chip plan) old cuts)) t)
      (slower shape (asks shape (held chip plan.table old) t) (asks shape curve t))
  asked_by_position cuts t =
      subst (λ (c : Curve). AsFast shape (asks shape c t) (slower shape (asks shape (held chip plan.table old) t) (asks shape curve t)))
      (sym (ap (curve_in table) (laid_stops cuts old long)))
      (told_of_rule shape (curve_in table (plays (placements chip plan) (worth chip old) cuts)) (held chip plan.table old) curve t
      (subst (λ (ws : List Pair). rule.Fast (asked rule (curve_in table (plays ws (worth chip old) cuts)) t)
      (rule.slower (asked rule (held chip plan.table old) t) (asked rule curve t)))
      rule_script
      (never_slower rule table (worth chip old) curve (table_apart chip plan.table) (plan_fits_is chip plan accepted old) cuts t)))

  ends_by_position : (image : List ℕ) → length image ≡ size_of chip → held chip plan.table (laid chip (placements chip plan) image) ≡ curve
  ends_by_position image l =
      ap (curve_in table) (laid_puts chip (placements chip plan) image (script_whole chip plan accepted) l)
      ∙ ap (λ (ws : List Pair). curve_in table (puts (worth chip image) ws)) (sym rule_script)
      ∙ ends_planned rule table (worth chip old) curve (table_apart chip plan.table) (plan_fits_is chip plan accepted old) (worth chip image)

  -- the image where the script was cut and begun again, any number of times
  abbrev pub stopped : List ℕ → List ℕ
  stopped cuts = stops (played chip) (script_of chip plan) old cuts

  pub asked_at_stop : (cuts : List ℕ) (t : ℕ)
      → AsFast shape (asks shape (held chip plan.table (stopped cuts)) t)
      (slower shape (asks shape (held chip plan.table old) t) (asks shape curve t))
  asked_at_stop cuts t =
      let r = bus_stops chip (placements chip plan) (placements_stand chip plan) cuts old old long (same_refl chip old) in
      rw (held_same chip plan.table r.1) (asked_by_position r.0 t)

  -- a play that completes ends at the plan, whatever it began with
  held_after : (image : List ℕ) → length image ≡ size_of chip → (count : ℕ) → length (script_of chip plan) ≤ count
      → held chip plan.table (played chip (take count (script_of chip plan)) image) ≡ curve
  held_after image l count h =
      held_same chip plan.table (bus_plays chip (placements chip plan) (placements_stand chip plan) image l count h) ∙ ends_by_position image l

  -- and so the last of some, if it does
  last_holds : (cuts image : List ℕ) (n : ℕ) → length image ≡ size_of chip
      → (length (script_of chip plan) ≤ n → held chip plan.table image ≡ curve)
      → length (script_of chip plan) ≤ last_of n cuts → held chip plan.table (stops (played chip) (script_of chip plan) image cuts) ≡ curve
  last_holds [] image n l h e = h e
  last_holds (k ∷ ks) image n l h e =
      last_holds ks (played chip (take k (script_of chip plan)) image) k (played_length chip (take k (script_of chip plan)) image ∙ l) (held_after image l k) e

  -- with no play none completes: a script is not empty
  pub held_at_last : (cuts : List ℕ) → length (script_of chip plan) ≤ last_of 0 cuts → held chip plan.table (stopped cuts) ≡ curve
  held_at_last cuts = last_holds cuts old 0 long (λ none. absurd (omega (arith, none, script_some chip plan accepted.has)))

  script_elsewhere : (q : ℕ) → Outside q (positions table) → AllElsewhere q (placements chip plan)
  unfolding placements
  script_elsewhere q o =
      let settings = table.settings in
      let speeds = table.speeds in
      let a = all_front (λ p. p ≡ q → ⊥) settings speeds o in
      let b = all_behind (λ p. p ≡ q → ⊥) settings speeds o in
      elsewhere_append q (writes speeds (fulls (full_of shape) speeds)) (writes settings curve.settings ++ writes speeds curve.speeds)
      (elsewhere_writes q speeds (fulls (full_of shape) speeds) b)
      (elsewhere_append q (writes settings curve.settings) (writes speeds curve.speeds)
      (elsewhere_writes q settings curve.settings a) (elsewhere_writes q speeds curve.speeds b))

  pub kept_outside : (cuts : List ℕ) (q : ℕ) → Outside q (touched chip plan.table) → get_or (stopped cuts) q 0 ≡ get_or old q 0
  kept_outside cuts q o =
      let aside = aside_in (banks_of chip) in
      let r = bus_stops chip (placements chip plan) (placements_stand chip plan) cuts old old long (same_refl chip old) in
      r.1.bytes q (all_front (λ p. p ≡ q → ⊥) aside (positions table) o)
      ∙ stops_elsewhere chip q (placements chip plan) r.0 old (script_elsewhere q (all_behind (λ p. p ≡ q → ⊥) aside (positions table) o))
