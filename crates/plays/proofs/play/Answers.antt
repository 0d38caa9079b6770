-- `plays::play` meets its contract: each answer knows how the plan was judged and whether the image is confirmed, and demand 3 follows from what
-- is played.
-- Assumes nothing.
use Rattle.std.proofs.Common.{ℕ, ◌≡◌, refl, sym, subst, Result, Err, rules}
use Rattle.refusal.specs.declared.Refusal.{Refusal}
use Rattle.plans.proofs.Laws.{refused_plan, accepted_plan, accepted_chip}
use Rattle.plays.specs.Promises.{Plays}
use Rattle.plays.proofs.Answers.{play_refused, play_unconfirmed, play_made}
use Rattle.plays.proofs.NeverSlower.{plays_safely}
use Rattle.plays.proofs.play.Goals as goal

pub returns-in_err-chip-clause-plays : goal.returns-in_err-chip-clause-plays
returns-in_err-chip-clause-plays c =
    let a = c.args in
    let handed_on : c.from_residual.result ≡ Err c.in_err-chip.field-0.0 = search rules in
    subst (λ (r : Result ℕ Refusal). Plays a.plan a.image.now a.count r a.image.now) (sym handed_on)
    (play_refused _ _ _ _ (refused_plan _ c.in_err-chip.ensures refl))

pub returns-in_err-confirm-clause-plays : goal.returns-in_err-confirm-clause-plays
returns-in_err-confirm-clause-plays c =
    let a = c.args in
    let handed_on : c.from_residual-in_err-confirm.result ≡ Err c.in_err-confirm.field-0.0 = search rules in
    subst (λ (r : Result ℕ Refusal). Plays a.plan a.image.now a.count r a.image.now) (sym handed_on)
    (play_unconfirmed _ _ _ _ (accepted_plan _ c.in_ok-chip.ensures refl) c.in_err-confirm.ensures)

pub returns-clause-plays : goal.returns-clause-plays
returns-clause-plays c =
    play_made _ _ _ c.in_ok-chip.chip (accepted_chip _ c.in_ok-chip.ensures refl) (accepted_plan _ c.in_ok-chip.ensures refl) c.in_ok-confirm.ensures c.make.ensures

pub returns-clause-safely : goal.returns-clause-safely
returns-clause-safely c = plays_safely (returns-clause-plays c)
