-- The calls on a lent image: their checks in the paper's order, what each answers, and which bytes stand there afterwards.
-- Assumes nothing.
use Rattle.std.specs.Prelude.{ℕ, ◌≡◌, List, [], ◌∷◌, length, Result, Ok, Err, ⊤}
use Rattle.refusal.specs.declared.Refusal.{Refusal}
use Rattle.refusal.specs.Refusals.{number_of}
use Rattle.refusal.specs.Answers.{tells}
use Rattle.refusal.specs.Checks.{Check, first, left}
use Rattle.pages.specs.declared.Chip.{Chip}
use Rattle.pages.specs.declared.Register.{Register}
use Rattle.pages.specs.Cards.{chip_of, chip_number, when_known, unknown, not_of_size, power_on}
use Rattle.images.specs.declared.Access.{Access}
use Rattle.images.specs.Bytes.{stored_at, position, written, seen}
use Rattle.images.specs.Images.{admitted}

-- "Byte writes, reads and resets check 3 and 8": of a number and a length ..
abbrev pub size_checks : ℕ → ℕ → List Check
size_checks chip size = (unknown chip, 3) ∷ (not_of_size chip size, 8) ∷ []

-- .. and so of an image
abbrev pub image_checks : ℕ → List ℕ → List Check
image_checks chip image = size_checks chip (length image)

-- the paper's number and the chip's number of an answer
abbrev pub tells_admitted : Result Chip Refusal → ℕ × ℕ
tells_admitted (Ok chip) = (0, chip_number chip)
tells_admitted (Err r) = (number_of r, 0)

-- what `images::admit` promises
pub record Admits (chip size : ℕ) (r : Result Chip Refusal) : Type 0 where
  pub answer : r ≡ admitted chip size

-- what `images::place` promises. Behind the image's end nothing changes.
pub record Places (register : Register) (byte : ℕ) (old new : List ℕ) : Type 0 where
  pub bytes : new ≡ stored_at register.masks register.position byte old

-- what `images::write` promises
pub record WritesByte (chip : ℕ) (old : List ℕ) (address byte : ℕ) (r : Result ⊤ Refusal) (new : List ℕ) : Type 0 where
  pub answer : tells r ≡ first (image_checks chip old)
  pub bytes : new ≡ left (image_checks chip old) (when_known (chip_of chip) (λ c. written c address byte old) old) old

-- what `images::look` promises
pub record Looks (chip : Chip) (image : List ℕ) (address : ℕ) (r : Access) : Type 0 where
  pub answer : r ≡ record { position = position chip image address; byte = seen chip address image }

-- what `images::reset` promises
pub record Resets (chip : ℕ) (old : List ℕ) (r : Result ⊤ Refusal) (new : List ℕ) : Type 0 where
  pub answer : tells r ≡ first (image_checks chip old)
  pub bytes : new ≡ left (image_checks chip old) (when_known (chip_of chip) power_on old) old
