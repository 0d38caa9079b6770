-- `plans::asked_of_image` meets its contract: each answer knows the chip, the table and how long the image is; the registers' bits ask what they do.
-- Assumes nothing.
use Prim.Native.Nat.{ℕ}
use mathlib.Core.Path.{◌≡◌, ap, ◌∙◌}
use mathlib.Core.Bool.{false}
use borrow.Author.Tests.{eq-eqb}
use Rattle.pages.specs.declared.Layout.{Layout}
use Rattle.pages.specs.declared.Register.{Register}
use Rattle.pages.specs.declared.Sizes.{Sizes}
use Rattle.pages.specs.Rows.{column, stands_at}
use Rattle.pages.specs.Sheets.{longest, register_in}
use Rattle.pages.specs.Cards.{sheet_of}
use Rattle.pages.proofs.Tables.{table_ground}
use Rattle.curves.specs.declared.Plan.{Plan}
use Rattle.curves.specs.Planned.{planned, asks}
use Rattle.bodies.specs.Bodies.{decoded}
use Rattle.plans.specs.Parts.{worth_at}
use Rattle.plans.proofs.Registers.{registers_ask}
use Rattle.plans.proofs.Looked.{chip_found, table_found}
use Rattle.plans.proofs.asked_of_image.Goals as goal

pub returns : goal.returns
returns c =
    let a = c.args in
    let known = c.in_ok-known.known in
    let found = table_found c.table_of.ensures c.in_ok-layout.ensures.value in
    let long = ap (λ (z : Sizes). z.image) c.sizes_of.ensures.answer in
    let shape = c.in_ok-layout.layout.shape in
    let bytes = column longest (λ k. worth_at (register_in (sheet_of known) a.table k) a.image.now) in
    let there = ap stands_at c.ground_of.ensures.answer ∙ table_ground known a.table in
    let held = c.held-body.ensures ∙ ap (λ (at : ℕ → Register). column longest (λ k. worth_at (at k) a.image.now)) there in
    let plan : c.plan_of-plan.result ≡ decoded false shape a.chip a.table 0 bytes =
    c.plan_of-plan.ensures.answer ∙ ap (decoded false shape a.chip a.table 0) held in
    record {
      answer = rw (chip_found c.in_ok-known.ensures, found.0, eq-eqb _ _ (c.if-image-sizes_of.false ∙ long))
          (ap (λ (speed : ℕ). (0, speed))
          (c.speed_of.ensures.answer
          ∙ ap (λ (p : Plan). asks shape (planned shape p) a.t) plan
          ∙ ap (λ (l : Layout). asks l.shape (planned l.shape (decoded false l.shape a.chip a.table 0 bytes)) a.t) found.1
          ∙ registers_ask known a.chip a.table a.image.now a.t found.0));
    }
