-- What the call of `identities` checks and promises.
-- Assumes nothing.
use Rattle.std.specs.Prelude.{ℕ, ◌≡◌, List, [], ◌∷◌, Result, ⊤}
use Rattle.refusal.specs.declared.Refusal.{Refusal}
use Rattle.refusal.specs.Answers.{tells}
use Rattle.refusal.specs.Checks.{Check, first}
use Rattle.pages.specs.Cards.{unknown, not_an_image}
use Rattle.identities.specs.Identities.{unconfirmed}

-- "identity 3, 8 and 10"
abbrev pub identity_checks : ℕ → List ℕ → List Check
identity_checks chip image = (unknown chip, 3) ∷ (not_an_image chip image, 8) ∷ (unconfirmed chip image, 10) ∷ []

-- what `identities::confirm` promises. The image is only read, so it holds what it held.
pub record Confirms (chip : ℕ) (image : List ℕ) (r : Result ⊤ Refusal) : Type 0 where
  pub answer : tells r ≡ first (identity_checks chip image)
