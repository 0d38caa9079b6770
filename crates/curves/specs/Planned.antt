-- "Plans and what they ask": a plan's curve, when its values are in order, what it asks and which of two speeds is faster, by the shape of the curve.
-- Assumes nothing.
use Rattle.std.specs.Prelude.{ℕ, min, max, Bool, ◌&&◌, List, [], ◌∷◌, ◌++◌, map, length, get_or, take}
use Rattle.pages.specs.declared.Shape.{Shape}
use Rattle.pages.specs.declared.Shape.TheVariants.{Slope, Steps}
use Rattle.curves.specs.declared.Plan.{Plan}
use Rattle.curves.specs.Curves.{degree, points, slope, step_rule, halves, words}
use Rattle.curves.specs.Orders.{rising, falling, never_falls, last_at_most, MoreDuty, LessCount}

-- A curve as a fan table's registers hold it, in register order: its settings, then its speeds.
pub record Curve : Type 0 where
  pub settings : List ℕ
  pub speeds : List ℕ

-- the curve of a plan: "the body in the register order"
abbrev pub planned : Shape → Plan → Curve
planned (Slope points full) plan =
    record { settings = take points plan.slope.temperatures ++ (plan.slope.critical ∷ []); speeds = take points plan.slope.duties }
planned Steps plan = record { settings = plan.steps.bounds; speeds = halves plan.steps.counts }

-- the bytes that stand at positions
abbrev pub values_at : List ℕ → List ℕ → List ℕ
values_at bytes positions = map (λ position. get_or bytes position 0) positions

-- n temperatures, then critical; "at T, from -128 to 127, for any values, ordered or not"
abbrev pub asked_duty : ℕ → ℕ → Curve → ℕ → ℕ
asked_duty full n curve t =
    slope full (points (map degree (take n curve.settings)) curve.speeds) (degree (get_or curve.settings n 0)) (degree t)

-- The speed that a curve asks at a temperature byte: a duty or a count. A slope has as many points as duties. "a curve's meaning below is that of the
-- chip in its curve mode": fan mode bits are not asked.
abbrev pub asks : Shape → Curve → ℕ → ℕ
asks (Slope points full) curve t = asked_duty full (length curve.speeds) curve t
asks Steps curve t = step_rule curve.settings (words curve.speeds) t

-- "Accepted if T1 < T2 < T3 < T4, T4 at most critical (else 6)"; "Accepted if B1 > B2 > B3 > B4 (else 6)"
abbrev pub temperatures_in_order : Shape → Plan → Bool
temperatures_in_order (Slope points full) plan =
    let ts = map degree (take points plan.slope.temperatures) in
    rising ts && last_at_most ts (degree plan.slope.critical)
temperatures_in_order Steps plan = falling plan.steps.bounds

-- "the duties never fall from FL1 to FL4 (else 7)"; "counts never fall from C1 to C5 (else 7)"
abbrev pub speeds_in_order : Shape → Plan → Bool
speeds_in_order (Slope points full) plan = never_falls (take points plan.slope.duties)
speeds_in_order Steps plan = never_falls plan.steps.counts

-- the fastest that a speed register can hold: "FFh", or "the greatest duty its registers hold", the slope's full duty; "00h"
abbrev pub full_of : Shape → ℕ
full_of (Slope points full) = full
full_of Steps = 0x00

-- "More duty is faster; a smaller count is faster": a is at least as fast as b
abbrev pub AsFast : Shape → ℕ → ℕ → Type 0
AsFast (Slope points full) a b = MoreDuty a b
AsFast Steps a b = LessCount a b

-- the slower of two speeds
abbrev pub slower : Shape → ℕ → ℕ → ℕ
slower (Slope points full) a b = min a b
slower Steps a b = max a b
