-- `records::write` meets its contract: a plan is put once it is accepted.
-- Assumes nothing.
use Rattle.std.specs.Prelude.{Err}
use mathlib.Core.Path.{◌≡◌, refl, ◌∙◌}
use borrow.Author.Rules.{rules}
use Rattle.refusal.specs.Answers.{tells_amount}
use Rattle.plans.proofs.Laws.{refused_plan, accepted_plan, accepted_chip}
use Rattle.records.proofs.Answers.{write_refused, write_put}
use Rattle.records.proofs.write.Goals as goal

pub returns-in_err-chip : goal.returns-in_err-chip
returns-in_err-chip c =
    let refusal = c.in_err-chip.field-0.0 in
    let same : tells_amount c.from_residual.result ≡ tells_amount (Err refusal) = search rules in
    let refused = write_refused c.args.plan c.args.out.now refusal (refused_plan _ c.in_err-chip.ensures refl) in
    record { answer = same ∙ refused.answer; bytes = refused.bytes }

pub returns : goal.returns
returns c =
    let chip = c.in_ok-chip.chip in
    write_put chip c.args.plan _ (accepted_chip chip c.in_ok-chip.ensures refl) (accepted_plan chip c.in_ok-chip.ensures refl) c.put.ensures
