-- No second answer of a call of `curves` meets its contract, which says what it is.
-- Assumes nothing.
use Prim.Native.Nat.{ℕ}
use mathlib.Core.Path.{◌≡◌, sym, ◌∙◌}
use mathlib.Core.Bool.{Bool}
use Rattle.pages.specs.declared.Shape.{Shape}
use Rattle.curves.specs.declared.Plan.{Plan}
use Rattle.curves.specs.Promises.{CountsPoints, Asks, OrdersTemperatures, OrdersSpeeds, Raises}

pub counts_points_unique : {points r s : ℕ} → CountsPoints points r → CountsPoints points s → r ≡ s
counts_points_unique p q = p.answer ∙ sym q.answer

pub asks_unique : {shape : Shape} {plan : Plan} {t r s : ℕ} → Asks shape plan t r → Asks shape plan t s → r ≡ s
asks_unique p q = p.answer ∙ sym q.answer

pub orders_temperatures_unique : {shape : Shape} {plan : Plan} {r s : Bool}
    → OrdersTemperatures shape plan r → OrdersTemperatures shape plan s → r ≡ s
orders_temperatures_unique p q = p.answer ∙ sym q.answer

pub orders_speeds_unique : {shape : Shape} {plan : Plan} {r s : Bool} → OrdersSpeeds shape plan r → OrdersSpeeds shape plan s → r ≡ s
orders_speeds_unique p q = p.answer ∙ sym q.answer

pub raises_unique : {shape : Shape} {r s : ℕ} → Raises shape r → Raises shape s → r ≡ s
raises_unique p q = p.answer ∙ sym q.answer
