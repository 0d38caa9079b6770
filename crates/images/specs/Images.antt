-- "Byte writes, reads and resets check 3 and 8": the chip that an image of some length is asked of.
-- Assumes nothing.
use Rattle.std.specs.Prelude.{ℕ, cond, eqb, Result, Ok, Err}
use Rattle.pages.specs.declared.Chip.{Chip}
use Rattle.refusal.specs.declared.Refusal.{Refusal}
use Rattle.refusal.specs.declared.Refusal.TheVariants.{NoSuchChip, NotAnImage}
use Rattle.pages.specs.Cards.{chip_of, when_known, size_of}

-- the chip that a number names, where an image of that length can be its
abbrev pub admitted : ℕ → ℕ → Result Chip Refusal
admitted chip size =
    when_known (chip_of chip) (λ c. cond (eqb size (size_of c)) (Ok c) (Err NotAnImage)) (Err NoSuchChip)
