-- `scripts::make` meets its contract: the writes of the plan's load, as many as are asked for or all, are those of its script.
-- Assumes nothing.
use Rattle.std.proofs.Common.{List, refl, min, ap, ◌∙◌}
use Rattle.curves.proofs.Owned.{plan_typed}
use Rattle.scripts.specs.declared.making.Write.{Write}
use Rattle.scripts.specs.Making.{made_of}
use Rattle.scripts.proofs.Answers.{same_writes, made_script}
use Rattle.scripts.proofs.make.Goals as goal

pub returns : goal.returns
returns c =
    let a = c.args in
    let all = c.of.ensures in
    let some = c.first-writes.ensures in
    made_script a.chip a.plan a.count (plan_typed a.plan _ c.well_formed.1.0).sized (some.3 ∙ ap (min a.count) all.3)
    (c.make_all.ensures ∙ ap (λ (ws : List Write). made_of ws a.image.now) (same_writes {n = c.first-writes.result.left} (some.0 ∙ all.0) (some.1 ∙ all.1) (some.2 ∙ all.2) refl))
