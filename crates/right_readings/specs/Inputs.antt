-- The NCT7904D's voltages, source document 003: "VSEN Low Byte together with VSEN High Byte forms the 11-bit count value", each count of which is worth
-- 2,000 or 6,000 microvolts by the input.
-- Assumes nothing.
use Rattle.std.specs.Prelude.{ℕ, ◌+◌, ◌*◌, ◌%◌, cond, List, [], ◌∷◌, eqb}

-- an input: the address of its high byte in bank 0, and the microvolts that a count of it is worth
abbrev pub Input : Type 0
Input = ℕ × ℕ

-- The addresses are those of section 7.1.10, where 62h is LTD, a temperature. By the formulas of section 6.4 a count is
-- 0.002 V of VSEN1 to VSEN14, and 0.006 V of 3VSB, 3VDD, VBAT and VSEN17 to VSEN19.
abbrev pub inputs : List Input
inputs =
    (0x40, 2000)  -- VSEN1
    ∷ (0x42, 2000)  -- VSEN2
    ∷ (0x44, 2000)  -- VSEN3
    ∷ (0x46, 2000)  -- VSEN4
    ∷ (0x48, 2000)  -- VSEN5
    ∷ (0x4A, 2000)  -- VSEN6
    ∷ (0x4C, 2000)  -- VSEN7
    ∷ (0x4E, 2000)  -- VSEN8
    ∷ (0x50, 2000)  -- VSEN9
    ∷ (0x52, 2000)  -- VSEN10
    ∷ (0x54, 2000)  -- VSEN11
    ∷ (0x56, 2000)  -- VSEN12
    ∷ (0x58, 2000)  -- VSEN13
    ∷ (0x5A, 2000)  -- VSEN14
    ∷ (0x5C, 6000)  -- 3VDD
    ∷ (0x5E, 6000)  -- VBAT
    ∷ (0x60, 6000)  -- 3VSB
    ∷ (0x64, 6000)  -- VSEN17
    ∷ (0x66, 6000)  -- VSEN18
    ∷ (0x68, 6000)  -- VSEN19
    ∷ []

-- what a count of the input at an address is worth, 0 where no voltage's high byte stands
abbrev pub worth_in : List Input → ℕ → ℕ
worth_in [] address = 0
worth_in (i ∷ is) address = cond (eqb i.0 address) i.1 (worth_in is address)

-- "Voltage High Value 11-bit voltage value bit[10:3]", "Voltage Low Value 11-bit voltage value bit[2:0]"
abbrev pub input_voltage : ℕ → ℕ → ℕ → ℕ
input_voltage input high low = (8 * high + low % 8) * worth_in inputs input
