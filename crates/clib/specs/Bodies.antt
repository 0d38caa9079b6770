-- A plan crosses as its chip, its table and what stands behind them in its record: a record without its mark, so that bytes behind the
-- body are ignored and a body that is cut short is refused. What each call that takes one checks.
-- Assumes nothing.
use Rattle.std.specs.Prelude.{ℕ, ◌*◌, List, ◌++◌, length}
use Rattle.refusal.specs.Checks.{Check, room_checks}
use Rattle.records.specs.Records.{plan_of, encoded}
use Rattle.records.specs.Promises.{body_plan_checks}
use Rattle.scripts.specs.Scripts.{script_for}
use Rattle.plays.specs.Promises.{start_checks}

-- 3, 4, 16, 5, 6, 7 "and then 9"
abbrev pub write_body_checks : ℕ → ℕ → List ℕ → List ℕ → List Check
write_body_checks chip table body out = body_plan_checks chip table body ++ room_checks (length (encoded (plan_of chip table body))) out

abbrev pub script_body_checks : ℕ → ℕ → List ℕ → List ℕ → List Check
script_body_checks chip table body out =
    body_plan_checks chip table body ++ room_checks (2 * length (script_for (plan_of chip table body))) out

-- 3, 4, 16, 5, 6, 7, "8, 10 and no 9"
abbrev pub play_body_checks : ℕ → ℕ → List ℕ → List ℕ → List Check
play_body_checks chip table body image = body_plan_checks chip table body ++ start_checks (plan_of chip table body) image
