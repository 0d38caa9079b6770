-- `curves::speed_of` meets its contract: each arm asks by the rule of its shape.
-- Assumes nothing.
use Rattle.curves.proofs.Registers.{planned_count}
use mathlib.Core.Path.{◌∙◌}
use Rattle.curves.proofs.speed_of.Goals as goal

pub returns-in-Steps : goal.returns-in-Steps
returns-in-Steps c =
    let a = c.args in
    rw c.in-Steps.is (record { answer = c.asked_count.ensures ∙ planned_count a.plan a.t })
