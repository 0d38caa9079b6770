-- What the conversion of `refusal` promises.
-- Assumes nothing.
use Rattle.std.specs.Prelude.{ℕ, ◌≡◌}
use Rattle.refusal.specs.declared.Refusal.{Refusal}
use Rattle.refusal.specs.Refusals.{number_of}

-- what `u8::from` of a refusal promises
pub record Numbers (refusal : Refusal) (n : ℕ) : Type 0 where
  pub answer : n ≡ number_of refusal
