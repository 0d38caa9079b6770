-- "Plan record and script": a plan's body, its values "in the register order".
-- Assumes nothing.
use Rattle.std.specs.Prelude.{ℕ, ◌+◌, Bool, cond, List, [], ◌∷◌, ◌++◌, ltb, get_or, take}
use Rattle.pages.specs.declared.Shape.{Shape}
use Rattle.pages.specs.declared.Shape.TheVariants.{Slope, Steps}
use Rattle.pages.specs.Rows.{from, column}
use Rattle.pages.specs.Sheets.{most_points}
use Rattle.curves.specs.declared.SlopeValues.{SlopeValues}
use Rattle.curves.specs.declared.StepValues.{StepValues}
use Rattle.curves.specs.declared.Plan.{Plan}
use Rattle.curves.specs.Curves.{words}
use Rattle.curves.specs.Values.{no_slope, no_steps}
use Rattle.curves.specs.Planned.{Curve, planned, values_at}

-- the bytes of a curve: settings, then speeds
abbrev pub body : Curve → List ℕ
body curve = curve.settings ++ curve.speeds

-- the body of a slope: "that many temperatures, critical, and that many duties"; or, where critical leads, "critical, T1 to T4, P1 to P4"
abbrev pub slope_body : Bool → ℕ → List ℕ → ℕ → List ℕ → List ℕ
slope_body leading points temperatures critical duties =
    let ts = take points temperatures in
    cond leading (critical ∷ ts) (ts ++ (critical ∷ [])) ++ take points duties

-- a plan's body, by whether critical leads
abbrev pub body_of : Bool → Shape → Plan → List ℕ
body_of leading (Slope points full) plan = slope_body leading points plan.slope.temperatures plan.slope.critical plan.slope.duties
body_of leading Steps plan = body (planned Steps plan)

-- the value of the k-th point, where the first one's stands at a place of the body, and 0 behind the last point ..
abbrev pub point_at : ℕ → ℕ → List ℕ → ℕ → ℕ
point_at points first body k = cond (ltb k points) (get_or body (first + k) 0) 0

-- .. and of all: a plan has room for eight
abbrev pub points_in : ℕ → ℕ → List ℕ → List ℕ
points_in points first body = column most_points (point_at points first body)

-- the values that stand in a body's bytes, "in the register order". What a short body lacks counts as 0.
abbrev pub slope_in : Bool → ℕ → List ℕ → SlopeValues
slope_in leading points body =
    record {
      temperatures = points_in points (cond leading 1 0) body;
      critical = get_or body (cond leading 0 points) 0;
      duties = points_in points (points + 1) body;
    }

abbrev pub steps_in : List ℕ → StepValues
steps_in body = record { bounds = values_at body (from 0 4); counts = words (values_at body (from 4 10)) }

-- the plan of a chip's number whose curve stands in a body's bytes, with the number of points that its record carries; the values of the other kind of
-- curve are zero
abbrev pub decoded : Bool → Shape → ℕ → ℕ → ℕ → List ℕ → Plan
decoded leading (Slope count full) chip table points body =
    record { chip = chip; table = table; points = points; slope = slope_in leading count body; steps = no_steps }
decoded leading Steps chip table points body = record { chip = chip; table = table; points = points; slope = no_slope; steps = steps_in body }

-- the values of as many points as there are, and zeros behind them
abbrev pub own_slope : ℕ → SlopeValues → SlopeValues
own_slope points values =
    record {
      temperatures = points_in points 0 values.temperatures;
      critical = values.critical;
      duties = points_in points 0 values.duties;
    }

-- "those of the other chip are zero in what is read": what comes back of a plan, with the number of points that its record carries
abbrev pub own_of : Shape → ℕ → Plan → Plan
own_of (Slope count full) points plan =
    record { chip = plan.chip; table = plan.table; points = points; slope = own_slope count plan.slope; steps = no_steps }
own_of Steps points plan = record { chip = plan.chip; table = plan.table; points = points; slope = no_slope; steps = plan.steps }
