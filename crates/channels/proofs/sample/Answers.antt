-- `channels::sample` meets its contract: 8 by the image's length, 12 as the watch refuses the sample, and else the temperature and then the voltages.
-- Assumes nothing.
use Rattle.std.proofs.Common.{◌≡◌, ℕ, List, get_or, sym, ap, subst, ◌∙◌, Result, Ok, Err, rules}
use lib.IntN.{ℤ}
use mir.Syntax.{w8, w16}
use mir.Val.{to_z, of_z, SFits}
use mir.Facts.{to_z-of_z}
use Rattle.refusal.specs.declared.Refusal.TheVariants.{NotAnImage}
use Rattle.refusal.specs.Checks.{first}
use Rattle.readings.specs.Readings.{degrees_of}
use Rattle.watch.specs.declared.Watch.{Watch}
use Rattle.watch.specs.declared.Refused.{Refused}
use Rattle.watch.specs.Promises.{sample_checks, tells_sampled, Samples}
use Rattle.channels.specs.Channels.{fed}
use Rattle.channels.specs.Promises.{SamplesChannels}
use Rattle.channels.proofs.Limits.{degrees_is}
use Rattle.channels.proofs.Refusals.{of_another_size, of_its_size, unfed, refused_sample, taken_sample}
use Rattle.channels.proofs.sample.Goals as goal

-- a number as it is handed on, and so what the watch answers
fit : {n z : ℤ} → SFits w8 n → n ≡ z → to_z w8 (of_z w8 n) ≡ z
fit f e = to_z-of_z f ∙ e

answered : (image : List ℕ) (watch : Watch) (steps high low : ℤ) (r : Result Watch Refused) → SFits w16 steps → SFits w8 high → SFits w8 low
    → high ≡ degrees_of (get_or image 0x38 0) → low ≡ degrees_of (get_or image 0x39 0)
    → Samples watch (to_z w16 (of_z w16 steps)) (to_z w8 (of_z w8 high)) (to_z w8 (of_z w8 low)) r
    → tells_sampled r ≡ (first (sample_checks steps), fed steps (record { image = image; watch = watch }))
answered image watch steps high low r f g h e e' s = rw (to_z-of_z f, fit g e, fit h e') at s.answer

pub returns-in_default : goal.returns-in_default
returns-in_default c =
    let a = c.args in
    refused_sample a.image.now a.watch a.steps a.words NotAnImage (sym (of_another_size a.image.now a.steps c.in_default.ensures.cases))

pub returns-in_err-next : goal.returns-in_err-next
returns-in_err-next c =
    let a = c.args in
    let refused = c.in_err-next.field-0.0 in
    let here = c.in-Some.ensures.cases in
    let told =
    answered c.in-Some.image.now a.watch a.steps c.cast_signed.result c.cast_signed-2.result (Err refused) c.ranges.steps (search rules) (search rules)
    (c.cast_signed.ensures ∙ degrees_is _ (search rules)) (c.cast_signed-2.ensures ∙ degrees_is _ (search rules)) c.in_err-next.ensures in
    let handed : c.from_residual.result ≡ Err refused = search rules in
    let twelve = ap (λ (t : ℕ × Watch). t.0) told in
    let same = ap (λ (t : ℕ × Watch). t.1) told ∙ unfed a.steps (record { image = c.in-Some.image.now; watch = a.watch }) refused.refusal twelve in
    subst (λ (image : List ℕ). SamplesChannels a.image.now a.watch a.steps a.words c.from_residual.result image) (sym here.same)
    (subst (λ (r : Result Watch Refused). SamplesChannels a.image.now a.watch a.steps a.words r a.image.now)
    (sym (handed ∙ ap (λ (watch : Watch). Err (record { refusal = refused.refusal; watch = watch })) same))
    (refused_sample a.image.now a.watch a.steps a.words refused.refusal (twelve ∙ sym (of_its_size a.image.now a.steps here.long))))

pub take_temperature-left-requires : goal.take_temperature-left-requires
take_temperature-left-requires c =
    let a = c.args in
    let told =
    answered c.in-Some.image.now a.watch a.steps c.cast_signed.result c.cast_signed-2.result (Ok c.in_ok-next.next) c.ranges.steps (search rules) (search rules)
    (c.cast_signed.ensures ∙ degrees_is _ (search rules)) (c.cast_signed-2.ensures ∙ degrees_is _ (search rules)) c.in_ok-next.ensures in
    rw (to_z-of_z c.ranges.steps) (ap (λ (t : ℕ × Watch). t.1) told)

pub returns : goal.returns
returns c =
    let a = c.args in
    let here = c.in-Some.ensures.cases in
    let told =
    answered c.in-Some.image.now a.watch a.steps c.cast_signed.result c.cast_signed-2.result (Ok c.in_ok-next.next) c.ranges.steps (search rules) (search rules)
    (c.cast_signed.ensures ∙ degrees_is _ (search rules)) (c.cast_signed-2.ensures ∙ degrees_is _ (search rules)) c.in_ok-next.ensures in
    taken_sample a.image.now a.watch a.steps a.words c.take_temperature-left.new.image c.take_voltages.new.image c.take_temperature-left.result
    (of_its_size a.image.now a.steps here.long ∙ sym (ap (λ (t : ℕ × Watch). t.0) told))
    (rw (to_z-of_z c.ranges.steps, here.same) at c.take_temperature-left.ensures) c.take_voltages.ensures
