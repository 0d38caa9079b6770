-- `plans::judge` meets its contract: it tells what `accept` answers.
-- Assumes nothing.
use mathlib.Core.Path.{◌≡◌, refl, ◌∙◌}
use borrow.Author.Rules.{rules}
use Rattle.refusal.specs.Refusals.{number_of}
use Rattle.refusal.specs.Answers.{tells}
use Rattle.plans.proofs.Laws.{refused_plan}
use Rattle.plans.proofs.judge.Goals as goal

pub returns-in_err-accept : goal.returns-in_err-accept
returns-in_err-accept c =
    let told : tells c.from_residual.result ≡ number_of c.in_err-accept.field-0.0 = search rules in
    record { answer = told ∙ refused_plan _ c.in_err-accept.ensures refl }
