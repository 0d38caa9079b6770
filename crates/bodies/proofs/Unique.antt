-- No second answer of a call of `bodies` meets its contract, which says what it is.
-- Assumes nothing.
use Prim.Native.Nat.{ℕ}
use mathlib.Core.Path.{◌≡◌, sym, ◌∙◌}
use mathlib.Core.Bool.{Bool}
use mathlib.Core.List.{List}
use Rattle.pages.specs.declared.Shape.{Shape}
use Rattle.curves.specs.declared.Plan.{Plan}
use Rattle.bodies.specs.Promises.{Decodes, EncodesBody}

pub decodes_unique : {leading : Bool} {shape : Shape} {chip table points : ℕ} {bytes : List ℕ} {r s : Plan}
    → Decodes leading shape chip table points bytes r → Decodes leading shape chip table points bytes s → r ≡ s
decodes_unique p q = p.answer ∙ sym q.answer

pub encodes_unique : {leading : Bool} {shape : Shape} {plan : Plan} {r s : List ℕ} → EncodesBody leading shape plan r → EncodesBody leading shape plan s
    → r ≡ s
encodes_unique p q = p.answer ∙ sym q.answer
