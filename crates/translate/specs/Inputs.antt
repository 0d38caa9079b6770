-- What reading promises; the bytes themselves are the system's to choose.
-- Assumes nothing.
use Rattle.std.specs.Prelude.{◌≤◌, ℕ, List, length, Result, IfOk}

-- what was read lies within the buffer
abbrev pub Holds : {E : Type 0} → List ℕ → Result ℕ E → Type 0
Holds buffer read = IfOk read (λ n. n ≤ length buffer)
