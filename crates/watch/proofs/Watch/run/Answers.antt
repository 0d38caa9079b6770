-- `watch::Watch::run` meets its contract: one more sample is the head of the samples that are left, and at the end none is left.
-- Assumes nothing.
use Rattle.std.proofs.Common.{◌≡◌, ℕ, ◌<◌, ◌+◌, ℤ, pos, List, length, drop, get_or, ap, ◌∙◌, add-one, drop-cons, rules, FitsSigned, w16, to_z, of_z}
use lib.ListN.{drop_of_length-le}
use mir.Facts.{to_z-of_z}
use Rattle.watch.specs.declared.Watch.{Watch}
use Rattle.watch.specs.Alarm.{sample, after, run, recorded}
use Rattle.watch.proofs.Watch.run.Goals as goal

one_more : (watch next : Watch) (samples : List ℤ) (i : ℕ) (high hysteresis : ℤ) → i < length samples → next ≡ after watch (sample (to_z w16 (of_z w16 (get_or samples i (pos 0)))) high hysteresis) → FitsSigned w16 (get_or samples i (pos 0)) → run next (recorded high hysteresis (drop (i + 1) samples)) ≡ run watch (recorded high hysteresis (drop i samples))
one_more watch next samples i high hysteresis h e fits =
    ap (λ (w : Watch). run w (recorded high hysteresis (drop (i + 1) samples))) (rw (to_z-of_z fits) at e) ∙ rw (add-one, drop-cons samples i (pos 0) h)

pub loop-steps-preserved : goal.loop-steps-preserved
loop-steps-preserved c =
    let l = c.loop-steps in
    one_more l.self c.after-self.result c.args.samples.now l.steps-index _ _ c.loop-steps-test.true c.after-self.ensures (search rules) ∙ l.invariant

pub returns : goal.returns
returns c =
    let f = c.ranges in
    record { answer = rw (drop_of_length-le c.args.samples.now c.loop-steps-test.false, to_z-of_z f.high, to_z-of_z f.hysteresis) at c.loop-steps.invariant }
