-- No second answer meets a contract of `watch`: what an answer tells determines it, since an accepted sample tells 0 and no refusal's number is 0.
-- Assumes nothing.
use Rattle.std.specs.Prelude.{Result, Ok, Err}
use Rattle.refusal.specs.declared.Refusal.{Refusal}
use Prim.Native.Nat.{ℕ}
use mathlib.Core.Path.{◌≡◌, sym, ap, ap₂, ◌∙◌}
use mathlib.Core.Bool.{Bool}
use mathlib.Core.List.{List}
use lib.IntN.{ℤ}
use Rattle.refusal.proofs.Numbers.{number_of_injective, not_accepted}
use Rattle.watch.specs.declared.Behaviour.{Behaviour}
use Rattle.watch.specs.declared.Watch.{Watch}
use Rattle.watch.specs.declared.Refused.{Refused}
use Rattle.watch.specs.Promises.{tells_sampled, Starts, Samples, Acknowledges, Shows, Runs}

pub tells_injective : (a b : Result Watch Refused) → tells_sampled a ≡ tells_sampled b → a ≡ b
tells_injective (Ok v) (Ok w) e = ap (λ (t : ℕ × Watch). Ok t.1) e
tells_injective (Ok v) (Err s) e = absurd (not_accepted s.refusal (ap (λ (t : ℕ × Watch). t.0) e))
tells_injective (Err r) (Ok w) e = absurd (not_accepted r.refusal (sym (ap (λ (t : ℕ × Watch). t.0) e)))
tells_injective (Err r) (Err s) e =
    ap₂ (λ (refusal : Refusal) (watch : Watch). Err (record { refusal = refusal; watch = watch }))
    (number_of_injective r.refusal s.refusal (ap (λ (t : ℕ × Watch). t.0) e))
    (ap (λ (t : ℕ × Watch). t.1) e)

pub starts_unique : {behaviour : Behaviour} {r s : Watch} → Starts behaviour r → Starts behaviour s → r ≡ s
starts_unique p q = p.answer ∙ sym q.answer

pub samples_unique : {watch : Watch} {steps high hysteresis : ℤ} {r s : Result Watch Refused} → Samples watch steps high hysteresis r → Samples watch steps high hysteresis s → r ≡ s
samples_unique {r} {s} p q = tells_injective r s (p.answer ∙ sym q.answer)

pub acknowledges_unique : {watch r s : Watch} → Acknowledges watch r → Acknowledges watch s → r ≡ s
acknowledges_unique p q = p.answer ∙ sym q.answer

pub shows_unique : {watch : Watch} {r s : Bool} → Shows watch r → Shows watch s → r ≡ s
shows_unique p q = p.answer ∙ sym q.answer

pub runs_unique : {watch : Watch} {samples : List ℤ} {high hysteresis : ℤ} {r s : Watch} → Runs watch samples high hysteresis r → Runs watch samples high hysteresis s → r ≡ s
runs_unique p q = p.answer ∙ sym q.answer
