-- "several register banks behind a bank select register": where a register of a bank stands in the image, and when a bank must be selected.
-- Assumes nothing.
use Rattle.std.specs.Prelude.{ℕ, ◌+◌, ◌*◌, ◌/◌, Bool, true, false, cond, List, [], ◌∷◌, eqb}

pub record Banks : Type 0 where
  -- where the bank select register stands
  pub select : ℕ
  -- its bits that say the bank, and none where there is one bank only
  pub bits : ℕ
  -- the addresses seen in every bank
  pub shared : List ℕ

-- one bank
abbrev pub one_bank : Banks
one_bank = record { select = 0x00; bits = 0x00; shared = [] }

-- whether an address is one of some
abbrev pub among : List ℕ → ℕ → Bool
among [] address = false
among (a ∷ rest) address = cond (eqb address a) true (among rest address)

-- "a register seen in every bank": where there is one bank only, each
abbrev pub shared_in : Banks → ℕ → Bool
shared_in banks address = cond (eqb banks.bits 0) true (among banks.shared address)

-- "An image holds all banks, one after the other; a register seen in every bank stands in bank 0's page only."
abbrev pub stands_in : Banks → ℕ → ℕ → ℕ
stands_in banks bank address = cond (shared_in banks address) address (bank * 256 + address)

-- what a select changes: the bank select register, where there is one
abbrev pub aside_in : Banks → List ℕ
aside_in banks = cond (eqb banks.bits 0) [] (banks.select ∷ [])

-- the number of no bank: before the first write none is known to be selected
abbrev pub no_bank : ℕ
no_bank = 256

-- a register is reached without a select where no bit says a bank, and where its bank is the one selected
abbrev pub ready : ℕ → ℕ → ℕ → Bool
ready bits bank position = cond (eqb bits 0) true (eqb bank (position / 256))

-- how many selects come between writes to some positions: one "before the first write and again wherever the next register lies in another bank"
abbrev pub selects_from : Banks → ℕ → List ℕ → ℕ
selects_from banks bank [] = 0
selects_from banks bank (p ∷ ps) = cond (ready banks.bits bank p) 0 1 + selects_from banks (p / 256) ps
