-- `states::take` meets its contract: by the look-up of the register the read only looks, or clears and acknowledges.
-- Assumes nothing.
use Prim.Native.Nat.{ℕ}
use mathlib.Core.Path.{sym, ap, ap₂, ◌∙◌}
use lib.ListN.{set}
use Rattle.pages.specs.Cards.{is_status}
use Rattle.images.specs.declared.Access.{Access}
use Rattle.watch.specs.declared.Watch.{Watch}
use Rattle.channels.specs.Channels.{State}
use Rattle.states.proofs.Reading.{read_plain, read_status}
use Rattle.states.proofs.take.Goals as goal

pub returns-then-not-is_status : goal.returns-then-not-is_status
returns-then-not-is_status c =
    let a = c.args in
    let seen_one = c.look-access.ensures.answer in
    let plain = read_plain a.chip a.address (record { image = a.image.now; watch = a.watch })
    (ap (λ (s : Access). is_status a.chip s.position) (sym seen_one) ∙ sym c.is_status.ensures.answer ∙ c.if-not-is_status.true) in
    record {
      answer = ap₂ (λ (b : ℕ) (w : Watch). (b, w)) (ap (λ (s : Access). s.byte) seen_one) (ap (λ (s : State). s.watch) (sym plain));
      bytes = ap (λ (s : State). s.image) (sym plain);
    }

pub returns : goal.returns
returns c =
    let a = c.args in
    let seen_one = c.look-access.ensures.answer in
    let status = read_status a.chip a.address (record { image = a.image.now; watch = a.watch })
    (ap (λ (s : Access). is_status a.chip s.position) (sym seen_one) ∙ sym c.is_status.ensures.answer ∙ c.if-not-is_status.false) in
    record {
      answer = ap₂ (λ (b : ℕ) (w : Watch). (b, w)) (ap (λ (s : Access). s.byte) seen_one)
          (c.acknowledge.ensures.answer ∙ ap (λ (s : State). s.watch) (sym status));
      bytes = c.clear.ensures
          ∙ ap (λ (s : Access). set a.image.now s.position 0) seen_one
          ∙ ap (λ (s : State). s.image) (sym status);
    }
