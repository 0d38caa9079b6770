-- `scripts::script` meets its contract: each answer knows how the plan was judged, and the pairs of an accepted plan's load are its script.
-- Assumes nothing.
use Rattle.std.proofs.Common.{ℕ, List, [], map, ◌≡◌, refl, sym, ap, subst, ◌∙◌, Option, Result, Err, rules}
use Rattle.refusal.specs.declared.Refusal.{Refusal}
use Rattle.pages.specs.declared.Chip.{Chip}
use Rattle.pages.specs.Cards.{when_known}
use Rattle.curves.proofs.Owned.{plan_typed}
use Rattle.plans.proofs.Laws.{refused_plan, accepted_plan, accepted_chip}
use Rattle.scripts.specs.declared.making.Write.{Write}
use Rattle.scripts.specs.Scripts.{addressed, script_of}
use Rattle.scripts.specs.Making.{pair_of}
use Rattle.scripts.specs.Promises.{Scripts}
use Rattle.scripts.proofs.Prepared.{load_script}
use Rattle.scripts.proofs.Answers.{same_writes, script_refused, script_put}
use Rattle.scripts.proofs.script.Goals as goal

pub returns-in_err-chip : goal.returns-in_err-chip
returns-in_err-chip c =
    let handed_on : c.from_residual.result ≡ Err c.in_err-chip.field-0.0 = search rules in
    subst (λ (r : Result ℕ Refusal). Scripts c.args.plan c.args.out.now r c.args.out.now) (sym handed_on)
    (script_refused _ _ _ (refused_plan _ c.in_err-chip.ensures refl))

pub returns : goal.returns
returns c =
    let plan = c.args.plan in
    let chip = c.in_ok-chip.chip in
    let all = c.of.ensures in
    let pairs =
    ap (λ (ws : List Write). map addressed (map pair_of ws)) (same_writes all.0 all.1 all.2 all.3)
    ∙ load_script chip plan (plan_typed plan _ c.well_formed.0).sized
    ∙ ap (λ (n : Option Chip). when_known n (λ one. script_of one plan) []) (sym (accepted_chip chip c.in_ok-chip.ensures refl)) in
    script_put _ _ (accepted_plan chip c.in_ok-chip.ensures refl) pairs c.put_all.ensures
