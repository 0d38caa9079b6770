-- `plans::tables::fit` meets its contract: where a bit of the table may not be written, its registers are asked.
-- Assumes nothing.
use Prim.Native.Nat.{ℕ, ◌+◌, ◌-◌, ◌≤◌}
use native.Mathlib.Omega.{arith}
use mathlib.Core.Path.{◌≡◌, ap, ap₂, ◌∙◌}
use mathlib.Core.Bool.{false}
use mathlib.Core.List.{List}
use lib.ListN.{get_or}
use Rattle.pages.specs.declared.Chip.{Chip}
use Rattle.pages.specs.declared.Ground.{Ground}
use Rattle.pages.specs.declared.Register.{Register}
use Rattle.pages.specs.declared.Shape.{Shape}
use Rattle.pages.specs.Promises.{Stands}
use Rattle.pages.specs.Rows.{column, stands_at}
use Rattle.pages.specs.Sheets.{longest, register_in}
use Rattle.pages.specs.Cards.{sheet_of}
use Rattle.pages.proofs.Tables.{table_ground}
use Rattle.curves.specs.declared.Plan.{Plan}
use Rattle.curves.specs.Planned.{planned}
use Rattle.bodies.specs.Bodies.{body}
use Rattle.bodies.specs.Promises.{EncodesBody}
use Rattle.bodies.proofs.Laws.{plain_body}
use Rattle.plans.specs.Parts.{fit_from}
use Rattle.plans.proofs.Fits.{fit_column}
use Rattle.plans.proofs.tables.fit.Goals as goal

-- the registers of n places, asked for the bytes of the plan's body
asked : (chip : Chip) (shape : Shape) (plan : Plan) (stretches : Ground) (bytes : List ℕ) (place to n : ℕ) → Stands chip plan.table stretches
    → EncodesBody false shape plan bytes → to - place ≡ n → to ≤ longest
    → fit_from (stands_at stretches) bytes place (to - place) ≡ fit_from (register_in (sheet_of chip) plan.table) (body (planned shape plan)) place n
asked chip shape plan stretches bytes place to n laid encoded e h =
    let register = register_in (sheet_of chip) plan.table in
    ap (λ (at : ℕ → Register). fit_from at bytes place (to - place)) (ap stands_at laid.answer ∙ table_ground chip plan.table)
    ∙ ap₂ (λ (bs : List ℕ) (k : ℕ). fit_from register bs place k)
    (encoded.answer ∙ ap (λ (l : List ℕ). column longest (λ k. get_or l k 0)) (plain_body shape plan)) e
    ∙ fit_column register (body (planned shape plan)) place n (omega arith)

pub returns : goal.returns
returns c =
    let a = c.args in
    let l = a.layout in
    let laid = c.ground_of-stretches.ensures in
    let encoded = c.body_of-body.ensures in
    let settings = c.each_fits.ensures ∙ asked a.chip l.shape a.plan _ _ 0 l.settings l.settings laid encoded (omega arith) (omega (arith, c.requires)) in
    let speeds = c.each_fits-2.ensures
    ∙ asked a.chip l.shape a.plan _ _ l.settings (l.settings + l.speeds) l.speeds laid encoded (omega arith) c.requires in
    rw c.if-layout.false (λ i. record { settings = settings i; speeds = speeds i })
