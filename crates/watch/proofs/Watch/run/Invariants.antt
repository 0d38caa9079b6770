-- `watch::Watch::run`: the run of the samples that are left, from the watch in hand, is the whole run.
-- Assumes nothing.
use Rattle.std.proofs.Common.{◌≡◌, drop}
use Rattle.watch.specs.Alarm.{run, recorded}
use Rattle.watch.proofs.Watch.run.Given as goal

abbrev pub invariant-loop-steps : goal.invariant-loop-steps
invariant-loop-steps l = run l.self (recorded l.high l.hysteresis (drop l.steps-index l.samples)) ≡ run l.initial.self (recorded l.high l.hysteresis l.samples)
