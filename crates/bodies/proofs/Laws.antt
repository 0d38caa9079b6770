-- A plan that comes out of a body names its chip and its table and has its arrays' lengths; a body and the plan in its bytes undo each other.
-- Assumes nothing.
use Prim.Native.Nat.{ℕ, suc, ◌+◌, ◌≤◌, ◌<◌}
use native.Mathlib.Numerals.{add-one}
use native.Mathlib.Omega.{arith}
use mathlib.Core.Path.{◌≡◌, refl, sym, ap, ap₂, ◌∙◌}
use mathlib.Core.Bool.{Bool, true, false, cond, ◌&&◌}
use mathlib.Core.List.{List, [], ◌∷◌, ◌++◌, map, append_assoc}
use borrow.Author.Tests.{ltb-true, lt-ltb}
use lib.Dec.{ltb}
use lib.ListN.{length, get_or, take, drop, length-append, length-drop, get_or-append}
use lib.Seq.{length-take-le, get_or-take, get_or-drop, get_or_at, get_or-append-add, take-suc, take-add, ext_get_or}
use Rattle.pages.specs.declared.Shape.{Shape}
use Rattle.pages.specs.declared.Shape.TheVariants.{Slope, Steps}
use Rattle.pages.specs.Rows.{from, column}
use Rattle.pages.specs.Sheets.{most_points, room}
use Rattle.pages.proofs.Columns.{column_length, column_at, column_same}
use Rattle.curves.specs.declared.SlopeValues.{SlopeValues}
use Rattle.curves.specs.declared.StepValues.{StepValues}
use Rattle.curves.specs.declared.Plan.{Plan}
use Rattle.curves.specs.Curves.{degree, halves, words}
use Rattle.curves.specs.Orders.{rising, never_falls, last_at_most}
use Rattle.curves.specs.Planned.{planned, values_at, temperatures_in_order, speeds_in_order}
use Rattle.curves.specs.Values.{no_slope, no_steps, Sized}
use Rattle.curves.proofs.StepLaws.{halves_length, words_halves, halves_words}
use Rattle.curves.proofs.Registers.{spelled, in_a_row}
use Rattle.curves.proofs.Filled.{Roomy, planned_sized}
use Rattle.bodies.specs.Bodies.{body, slope_body, body_of, point_at, points_in, slope_in, steps_in, decoded, own_slope, own_of}

pub decoded_chip : (leading : Bool) (shape : Shape) (chip table points : ℕ) (bytes : List ℕ) → (decoded leading shape chip table points bytes).chip ≡ chip
decoded_chip leading (Slope count full) chip table points bytes = refl
decoded_chip leading Steps chip table points bytes = refl

pub decoded_table : (leading : Bool) (shape : Shape) (chip table points : ℕ) (bytes : List ℕ)
    → (decoded leading shape chip table points bytes).table ≡ table
decoded_table leading (Slope count full) chip table points bytes = refl
decoded_table leading Steps chip table points bytes = refl

pub decoded_points : (leading : Bool) (shape : Shape) (chip table points : ℕ) (bytes : List ℕ)
    → (decoded leading shape chip table points bytes).points ≡ points
decoded_points leading (Slope count full) chip table points bytes = refl
decoded_points leading Steps chip table points bytes = refl

-- however short the body is
pub decoded_sized : (leading : Bool) (shape : Shape) (chip table points : ℕ) (bytes : List ℕ) → Sized (decoded leading shape chip table points bytes)
unfolding words
decoded_sized leading (Slope count full) chip table points bytes =
    record { temperatures = column_length most_points _; duties = column_length most_points _; bounds = refl; counts = refl }
decoded_sized leading Steps chip table points bytes = record { temperatures = refl; duties = refl; bounds = refl; counts = refl }

-- where critical does not lead, a body is in register order; steps have no critical that could lead
pub plain_body : (shape : Shape) (plan : Plan) → body_of false shape plan ≡ body (planned shape plan)
plain_body (Slope points full) plan = refl
plain_body Steps plan = refl

-- "9 bytes for chip 1, 14 for chip 2"
pub settings_length : (leading : Bool) (critical : ℕ) (ts : List ℕ) → length (cond leading (critical ∷ ts) (ts ++ (critical ∷ []))) ≡ length ts + 1
settings_length true critical ts = sym (add-one (length ts))
settings_length false critical ts = length-append ts (critical ∷ [])

pub body_length_is : (leading : Bool) (shape : Shape) (plan : Plan) → Sized plan → Roomy shape
    → length (body_of leading shape plan) ≡ (room shape).0 + (room shape).1
body_length_is leading (Slope points full) plan sized p =
    let ts = take points plan.slope.temperatures in
    let ds = take points plan.slope.duties in
    let settings = cond leading (plan.slope.critical ∷ ts) (ts ++ (plan.slope.critical ∷ [])) in
    omega (
      arith,
      length-append settings ds,
      settings_length leading plan.slope.critical ts,
      length-take-le points plan.slope.temperatures (omega (arith, sized.temperatures, p)),
      length-take-le points plan.slope.duties (omega (arith, sized.duties, p)),
    )
body_length_is leading Steps plan sized p =
    let curve = planned Steps plan in
    let filled = planned_sized Steps plan sized p in
    length-append curve.settings curve.speeds ∙ ap₂ (λ (m n : ℕ). m + n) filled.0 filled.1

-- values that are laid out stand in front of their column
pub column_begins : (values : List ℕ) (n : ℕ) → length values ≤ n → take (length values) (column n (λ k. get_or values k 0)) ≡ values
column_begins values n h =
    let bytes = column n (λ k. get_or values k 0) in
    let long = length-take-le (length values) bytes (omega (arith, column_length n (λ k. get_or values k 0))) in
    ext_get_or 0 (take (length values) bytes) values long
    (λ k l.
    let within : k < length values = omega (arith, long) in
    get_or-take (length values) bytes k 0 within ∙ column_at n (λ j. get_or values j 0) k (omega arith))

-- a value for each point that is laid out behind others comes back, whatever stands behind it
points_back : (n first : ℕ) (front values rest : List ℕ) → length front ≡ first → n ≤ length values
    → points_in n first (front ++ (take n values ++ rest)) ≡ points_in n 0 values
points_back n first front values rest e h =
    column_same most_points (point_at n first (front ++ (take n values ++ rest))) (point_at n 0 values) (λ k l. by_place k (ltb k n) refl)
  where
    by_place : (k : ℕ) (there : Bool) → ltb k n ≡ there → point_at n first (front ++ (take n values ++ rest)) k ≡ point_at n 0 values k
    by_place k true t =
        let low = ltb-true k n t in
        let long = length-take-le n values h in
        let zeroth : 0 + k ≡ k = omega arith in
        rw (t, zeroth)
        (ap (λ (f : ℕ). get_or (front ++ (take n values ++ rest)) (f + k) 0) (sym e)
        ∙ get_or-append-add front (take n values ++ rest) k 0
        ∙ get_or-append (take n values) rest 0 k (omega (arith, long, low))
        ∙ get_or-take n values k 0 low)
    by_place k false t = rw t

pub slope_back : (leading : Bool) (n : ℕ) (values : SlopeValues) (rest : List ℕ) → n ≤ length values.temperatures → n ≤ length values.duties
    → slope_in leading n (slope_body leading n values.temperatures values.critical values.duties ++ rest) ≡ own_slope n values
slope_back true n values rest t d =
    let c = values.critical in
    let ts = take n values.temperatures in
    let ds = take n values.duties in
    let long = length-take-le n values.temperatures t in
    let temperatures : points_in n 1 (c ∷ ((ts ++ ds) ++ rest)) ≡ points_in n 0 values.temperatures =
    ap (λ (l : List ℕ). points_in n 1 (c ∷ l)) (append_assoc ts ds rest) ∙ points_back n 1 (c ∷ []) values.temperatures (ds ++ rest) refl t in
    let duties : points_in n (n + 1) (c ∷ ((ts ++ ds) ++ rest)) ≡ points_in n 0 values.duties =
    ap (λ (l : List ℕ). points_in n (n + 1) (c ∷ l)) (append_assoc ts ds rest)
    ∙ points_back n (n + 1) (c ∷ ts) values.duties rest (omega (arith, long)) d in
    λ i. record { temperatures = temperatures i; critical = c; duties = duties i }
slope_back false n values rest t d =
    let c = values.critical in
    let ts = take n values.temperatures in
    let ds = take n values.duties in
    let long = length-take-le n values.temperatures t in
    let front = ts ++ (c ∷ []) in
    let bytes = (front ++ ds) ++ rest in
    let spread : bytes ≡ front ++ (ds ++ rest) = append_assoc front ds rest in
    let apart : bytes ≡ ts ++ (c ∷ (ds ++ rest)) = spread ∙ append_assoc ts (c ∷ []) (ds ++ rest) in
    let temperatures : points_in n 0 bytes ≡ points_in n 0 values.temperatures =
    ap (points_in n 0) apart ∙ points_back n 0 [] values.temperatures (c ∷ (ds ++ rest)) refl t in
    let critical : get_or bytes n 0 ≡ c = ap (λ (l : List ℕ). get_or l n 0) apart ∙ get_or_at ts c (ds ++ rest) 0 n long in
    let duties : points_in n (n + 1) bytes ≡ points_in n 0 values.duties =
    ap (points_in n (n + 1)) spread ∙ points_back n (n + 1) front values.duties rest (omega (arith, length-append ts (c ∷ []), long)) d in
    λ i. record { temperatures = temperatures i; critical = critical i; duties = duties i }

pub steps_back : (values : StepValues) (rest : List ℕ) → length values.bounds ≡ 4 → length values.counts ≡ 5
    → steps_in ((values.bounds ++ halves values.counts) ++ rest) ≡ values
steps_back values rest b c =
    let undone : List ℕ → List ℕ → StepValues = λ bs hs. steps_in ((bs ++ hs) ++ rest) in
    let of : List ℕ → List ℕ → StepValues = λ bs cs. record { bounds = bs; counts = cs } in
    let bs = spelled values.bounds 4 b in
    let hs = spelled (halves values.counts) 10 (omega (arith, halves_length values.counts, c)) in
    sym (ap₂ undone bs hs) ∙ ap₂ (λ (l h : List ℕ). of l (words h)) bs hs ∙ ap (of values.bounds) (words_halves values.counts)

-- a plan's body is decoded to the plan
pub body_back : (leading : Bool) (shape : Shape) (points : ℕ) (plan : Plan) (rest : List ℕ) → Sized plan → Roomy shape
    → decoded leading shape plan.chip plan.table points (body_of leading shape plan ++ rest) ≡ own_of shape points plan
body_back leading (Slope count full) points plan rest sized p =
    let values =
    slope_back leading count plan.slope rest (omega (arith, sized.temperatures, p)) (omega (arith, sized.duties, p)) in
    λ i. record { chip = plan.chip; table = plan.table; points = points; slope = values i; steps = no_steps }
body_back leading Steps points plan rest sized p =
    let values = steps_back plan.steps rest sized.bounds sized.counts in
    λ i. record { chip = plan.chip; table = plan.table; points = points; slope = no_slope; steps = values i }

-- the values of all points, from a place of a body on, are the bytes there
pub points_taken : (n first : ℕ) (bytes : List ℕ) → n ≤ most_points → first + n ≤ length bytes → take n (points_in n first bytes) ≡ take n (drop first bytes)
points_taken n first bytes p h =
    let long = length-take-le n (points_in n first bytes) (omega (arith, column_length most_points (point_at n first bytes), p)) in
    let there = length-take-le n (drop first bytes) (omega (arith, length-drop first bytes, h)) in
    ext_get_or 0 (take n (points_in n first bytes)) (take n (drop first bytes)) (long ∙ sym there)
    (λ k l.
    let low : k < n = omega (arith, long) in
    get_or-take n (points_in n first bytes) k 0 low
    ∙ column_at most_points (point_at n first bytes) k (omega (arith, p))
    ∙ ap (λ (b : Bool). cond b (get_or bytes (first + k) 0) 0) (lt-ltb k n low)
    ∙ sym (get_or-take n (drop first bytes) k 0 low ∙ get_or-drop first bytes k 0))

-- a whole body is the body of the plan in it, whatever stands behind it
settings_encode : (leading : Bool) (n : ℕ) (bytes : List ℕ) → n < length bytes
    → cond leading (get_or bytes 0 0 ∷ take n (drop 1 bytes)) (take n bytes ++ (get_or bytes n 0 ∷ [])) ≡ take (suc n) bytes
settings_encode true n [] h = absurd (omega arith)
settings_encode true n (b ∷ bytes) h = refl
settings_encode false n bytes h = sym (take-suc bytes n 0 h)

pub settings_taken : (leading : Bool) (n : ℕ) (bytes : List ℕ) → n ≤ most_points → n < length bytes
    → cond leading (get_or bytes (cond leading 0 n) 0 ∷ take n (points_in n (cond leading 1 0) bytes))
    (take n (points_in n (cond leading 1 0) bytes) ++ (get_or bytes (cond leading 0 n) 0 ∷ []))
    ≡ take (n + 1) bytes
settings_taken true n bytes p h =
    ap (λ (ts : List ℕ). get_or bytes 0 0 ∷ ts) (points_taken n 1 bytes p (omega arith))
    ∙ settings_encode true n bytes h ∙ ap (λ (k : ℕ). take k bytes) (sym (add-one n))
settings_taken false n bytes p h =
    ap (λ (ts : List ℕ). ts ++ (get_or bytes n 0 ∷ [])) (points_taken n 0 bytes p (omega arith))
    ∙ settings_encode false n bytes h ∙ ap (λ (k : ℕ). take k bytes) (sym (add-one n))

slope_encode : (leading : Bool) (n : ℕ) (bytes : List ℕ) → n ≤ most_points → n + 1 + n ≤ length bytes
    → slope_body leading n (slope_in leading n bytes).temperatures (slope_in leading n bytes).critical (slope_in leading n bytes).duties
    ≡ take (n + 1 + n) bytes
slope_encode leading n bytes p h =
    let duties = points_taken n (n + 1) bytes p h in
    ap₂ (λ (settings ds : List ℕ). settings ++ ds) (settings_taken leading n bytes p (omega arith)) duties
    ∙ sym (take-add (n + 1) n bytes)

pub encode_decode : (leading : Bool) (shape : Shape) (chip table points : ℕ) (bytes : List ℕ) → Roomy shape
    → (room shape).0 + (room shape).1 ≤ length bytes → ((k : ℕ) → get_or bytes k 0 < 256)
    → body_of leading shape (decoded leading shape chip table points bytes) ≡ take ((room shape).0 + (room shape).1) bytes
encode_decode leading (Slope count full) chip table points bytes p h byte = slope_encode leading count bytes p h
encode_decode leading Steps chip table points bytes p h byte =
    ap (λ (l : List ℕ). values_at bytes (from 0 4) ++ l)
    (halves_words (values_at bytes (from 4 10)) (byte 5, (byte 7, (byte 9, (byte 11, (byte 13, tt))))))
    ∙ in_a_row bytes 0 14 h

-- what comes back of a plan names its chip and its table, has its curve and is in order as it is
pub own_chip : (shape : Shape) (points : ℕ) (plan : Plan) → (own_of shape points plan).chip ≡ plan.chip
own_chip (Slope count full) points plan = refl
own_chip Steps points plan = refl

pub own_table : (shape : Shape) (points : ℕ) (plan : Plan) → (own_of shape points plan).table ≡ plan.table
own_table (Slope count full) points plan = refl
own_table Steps points plan = refl

pub own_points : (shape : Shape) (points : ℕ) (plan : Plan) → (own_of shape points plan).points ≡ points
own_points (Slope count full) points plan = refl
own_points Steps points plan = refl

-- the values of its points are those of the plan
own_taken : (count : ℕ) (values : List ℕ) → length values ≡ most_points → count ≤ most_points → take count (points_in count 0 values) ≡ take count values
own_taken count values long p = points_taken count 0 values p (omega (arith, long, p))

pub own_curve : (shape : Shape) (points : ℕ) (plan : Plan) → Sized plan → Roomy shape → planned shape (own_of shape points plan) ≡ planned shape plan
own_curve (Slope count full) points plan sized p =
    let temperatures = own_taken count plan.slope.temperatures sized.temperatures p in
    let duties = own_taken count plan.slope.duties sized.duties p in
    λ i. record { settings = temperatures i ++ (plan.slope.critical ∷ []); speeds = duties i }
own_curve Steps points plan sized p = refl

pub own_temperatures : (shape : Shape) (points : ℕ) (plan : Plan) → Sized plan → Roomy shape
    → temperatures_in_order shape (own_of shape points plan) ≡ temperatures_in_order shape plan
own_temperatures (Slope count full) points plan sized p =
    ap (λ (ts : List ℕ). rising (map degree ts) && last_at_most (map degree ts) (degree plan.slope.critical))
    (own_taken count plan.slope.temperatures sized.temperatures p)
own_temperatures Steps points plan sized p = refl

pub own_speeds : (shape : Shape) (points : ℕ) (plan : Plan) → Sized plan → Roomy shape
    → speeds_in_order shape (own_of shape points plan) ≡ speeds_in_order shape plan
own_speeds (Slope count full) points plan sized p = ap never_falls (own_taken count plan.slope.duties sized.duties p)
own_speeds Steps points plan sized p = refl
