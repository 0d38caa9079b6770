-- "Identity": when an image is not confirmed to be a chip's.
-- Assumes nothing.
use Rattle.std.specs.Prelude.{ℕ, Bool, false, not, List}
use Rattle.pages.specs.Cards.{chip_of, when_known}
use Rattle.pages.specs.Identity.{confirmed}

-- refusal 10: "identity is not confirmed"
abbrev pub unconfirmed : ℕ → List ℕ → Bool
unconfirmed chip image = not (when_known (chip_of chip) (λ c. confirmed c image) false)
