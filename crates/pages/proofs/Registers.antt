-- "Registers", as one list under one claim: each value of a fan table stands where the rules paper puts it, and so do the bytes of a temperature.
-- Assumes nothing.
use Prim.Native.Nat.{ℕ, ◌+◌, ◌-◌, ◌*◌}
use mathlib.Core.Path.{refl}
use mathlib.Core.Bool.{So}
use mathlib.Core.List.{List, [], ◌∷◌}
use lib.ListN.{length, get_or}
use Rattle.pages.specs.declared.Chip.{Chip}
use Rattle.pages.specs.declared.Chip.TheVariants.{Nct7802y, F75373s, Nct80, Nct7904d, W83793g}
use Rattle.pages.specs.Rows.{Reading, positions}
use Rattle.pages.specs.Cards.{sheet_of, tables_of, table_of}
use Rattle.pages.proofs.FixedPoints.{Point, agree}

-- where the values of a table of chip 1 stand, by its number: T1 to T4, critical, FL1 to FL4
abbrev t : ℕ → ℕ → ℕ
t number k = get_or (table_of Nct7802y number).settings (k - 1) 0

abbrev critical : ℕ → ℕ
critical number = get_or (table_of Nct7802y number).settings 4 0

abbrev fl : ℕ → ℕ → ℕ
fl number k = get_or (table_of Nct7802y number).speeds (k - 1) 0

-- and those of a fan of chip 2: B1 to B4, and the two bytes of C1 to C5
abbrev b : ℕ → ℕ → ℕ
b number k = get_or (table_of F75373s number).settings (k - 1) 0

abbrev high : ℕ → ℕ → ℕ
high number k = get_or (table_of F75373s number).speeds (2 * (k - 1)) 0

abbrev low : ℕ → ℕ → ℕ
low number k = get_or (table_of F75373s number).speeds (2 * (k - 1) + 1) 0

-- and those of a table of chip 4: critical, T1 to T4, P1 to P4
abbrev critical4 : ℕ → ℕ
critical4 number = get_or (table_of Nct7904d number).settings 4 0

abbrev t4 : ℕ → ℕ → ℕ
t4 number k = get_or (table_of Nct7904d number).settings (k - 1) 0

abbrev p4 : ℕ → ℕ → ℕ
p4 number k = get_or (table_of Nct7904d number).speeds (k - 1) 0

-- where the bytes of its k-th temperature stand
abbrev reading4 : ℕ → Reading
reading4 k = get_or (sheet_of Nct7904d).temperatures k (record { width = 0; high = []; low = 0x00; bits = 0x00; unit = 0 })

abbrev high_of : ℕ → ℕ
high_of k = get_or (reading4 k).high 0 0

abbrev low_of : ℕ → ℕ
low_of k = (reading4 k).low

-- and those of a table of chip 5: seven temperatures, critical, seven duties
abbrev t5 : ℕ → ℕ → ℕ
t5 number k = get_or (table_of W83793g number).settings (k - 1) 0

abbrev critical5 : ℕ → ℕ
critical5 number = get_or (table_of W83793g number).settings 7 0

abbrev d5 : ℕ → ℕ → ℕ
d5 number k = get_or (table_of W83793g number).speeds (k - 1) 0

-- where a chip's temperatures stand
abbrev temperature : Chip → Reading
temperature chip = get_or (sheet_of chip).temperatures 0 (record { width = 0; high = []; low = 0x00; bits = 0x00; unit = 0x00 })

unfoldable pub registers : List Point
registers =
    -- "chip 1 table 1 has T1 to T4 at 80h to 83h, critical 84h, FL1 to FL4 85h to 88h"
    (t 1 1, 0x80) ∷ (t 1 2, 0x81) ∷ (t 1 3, 0x82) ∷ (t 1 4, 0x83) ∷ (critical 1, 0x84)
    ∷ (fl 1 1, 0x85) ∷ (fl 1 2, 0x86) ∷ (fl 1 3, 0x87) ∷ (fl 1 4, 0x88)
    -- "table 2 the same from 90h"
    ∷ (t 2 1, 0x90) ∷ (t 2 2, 0x91) ∷ (t 2 3, 0x92) ∷ (t 2 4, 0x93) ∷ (critical 2, 0x94)
    ∷ (fl 2 1, 0x95) ∷ (fl 2 2, 0x96) ∷ (fl 2 3, 0x97) ∷ (fl 2 4, 0x98)
    -- "table 3 from A0h"
    ∷ (t 3 1, 0xA0) ∷ (t 3 2, 0xA1) ∷ (t 3 3, 0xA2) ∷ (t 3 4, 0xA3) ∷ (critical 3, 0xA4)
    ∷ (fl 3 1, 0xA5) ∷ (fl 3 2, 0xA6) ∷ (fl 3 3, 0xA7) ∷ (fl 3 4, 0xA8)
    -- "Chip 2 fan 1 has B1 to B4 at A0h to A3h and C1 to C5 from A4h to ADh, high byte first"
    ∷ (b 1 1, 0xA0) ∷ (b 1 2, 0xA1) ∷ (b 1 3, 0xA2) ∷ (b 1 4, 0xA3)
    ∷ (high 1 1, 0xA4) ∷ (low 1 1, 0xA5) ∷ (high 1 2, 0xA6) ∷ (low 1 2, 0xA7) ∷ (high 1 3, 0xA8) ∷ (low 1 3, 0xA9)
    ∷ (high 1 4, 0xAA) ∷ (low 1 4, 0xAB) ∷ (high 1 5, 0xAC) ∷ (low 1 5, 0xAD)
    -- "fan 2 the same from B0h"
    ∷ (b 2 1, 0xB0) ∷ (b 2 2, 0xB1) ∷ (b 2 3, 0xB2) ∷ (b 2 4, 0xB3)
    ∷ (high 2 1, 0xB4) ∷ (low 2 1, 0xB5) ∷ (high 2 2, 0xB6) ∷ (low 2 2, 0xB7) ∷ (high 2 3, 0xB8) ∷ (low 2 3, 0xB9)
    ∷ (high 2 4, 0xBA) ∷ (low 2 4, 0xBB) ∷ (high 2 5, 0xBC) ∷ (low 2 5, 0xBD)
    -- "chip 1: 1 to 3; chip 2: 1 and 2; chip 3: none", and no register more
    ∷ (length (tables_of Nct7802y), 3) ∷ (length (tables_of F75373s), 2) ∷ (length (tables_of Nct80), 0)
    ∷ (length (positions (table_of Nct7802y 1)), 9) ∷ (length (positions (table_of Nct7802y 2)), 9) ∷ (length (positions (table_of Nct7802y 3)), 9)
    ∷ (length (positions (table_of F75373s 1)), 14) ∷ (length (positions (table_of F75373s 2)), 14)
    -- "chip 1: high byte and bits 7 to 5 of 05h"; source document 000: "MNTRTD1[10:3]" at 01h, "MNTRTD2[10:3]" at 02h, "MNTRTD3[10:3]" at 03h
    ∷ ((temperature Nct7802y).low, 0x05) ∷ ((temperature Nct7802y).bits, 0xE0) ∷ (length (temperature Nct7802y).high, 3)
    ∷ (get_or (temperature Nct7802y).high 0 0, 0x01) ∷ (get_or (temperature Nct7802y).high 1 0, 0x02) ∷ (get_or (temperature Nct7802y).high 2 0, 0x03)
    -- "chip 3: 27h and bits 7 to 4 of 06h"
    ∷ ((temperature Nct80).low, 0x06) ∷ ((temperature Nct80).bits, 0xF0) ∷ (length (temperature Nct80).high, 1) ∷ (get_or (temperature Nct80).high 0 0, 0x27)
    -- chip 4, source document 003, 7.4.16: "T1CTFS - Bank 3 Address 20" to "T4CTFS - Bank 3 Address 23"; 7.4.19: "T1 – T4 30-33", "PWM1 – PWM4 34-37"
    -- and so on
    ∷ (critical4 1, 0x320) ∷ (t4 1 1, 0x330) ∷ (t4 1 2, 0x331) ∷ (t4 1 3, 0x332) ∷ (t4 1 4, 0x333)
    ∷ (p4 1 1, 0x334) ∷ (p4 1 2, 0x335) ∷ (p4 1 3, 0x336) ∷ (p4 1 4, 0x337)
    ∷ (critical4 2, 0x321) ∷ (t4 2 1, 0x338) ∷ (t4 2 2, 0x339) ∷ (t4 2 3, 0x33A) ∷ (t4 2 4, 0x33B)
    ∷ (p4 2 1, 0x33C) ∷ (p4 2 2, 0x33D) ∷ (p4 2 3, 0x33E) ∷ (p4 2 4, 0x33F)
    ∷ (critical4 3, 0x322) ∷ (t4 3 1, 0x340) ∷ (t4 3 2, 0x341) ∷ (t4 3 3, 0x342) ∷ (t4 3 4, 0x343)
    ∷ (p4 3 1, 0x344) ∷ (p4 3 2, 0x345) ∷ (p4 3 3, 0x346) ∷ (p4 3 4, 0x347)
    ∷ (critical4 4, 0x323) ∷ (t4 4 1, 0x348) ∷ (t4 4 2, 0x349) ∷ (t4 4 3, 0x34A) ∷ (t4 4 4, 0x34B)
    ∷ (p4 4 1, 0x34C) ∷ (p4 4 2, 0x34D) ∷ (p4 4 3, 0x34E) ∷ (p4 4 4, 0x34F)
    -- 7.5.3: "T5CTFS - Bank 4 Address 10" to "T10CTFS - Bank 4 Address 15"; 7.5.5: "T1 – T4 30-33" to "DC/PWM1 – DC/PWM4 5C-5F"
    ∷ (critical4 5, 0x410) ∷ (t4 5 1, 0x430) ∷ (t4 5 2, 0x431) ∷ (t4 5 3, 0x432) ∷ (t4 5 4, 0x433)
    ∷ (p4 5 1, 0x434) ∷ (p4 5 2, 0x435) ∷ (p4 5 3, 0x436) ∷ (p4 5 4, 0x437)
    ∷ (critical4 6, 0x411) ∷ (t4 6 1, 0x438) ∷ (t4 6 2, 0x439) ∷ (t4 6 3, 0x43A) ∷ (t4 6 4, 0x43B)
    ∷ (p4 6 1, 0x43C) ∷ (p4 6 2, 0x43D) ∷ (p4 6 3, 0x43E) ∷ (p4 6 4, 0x43F)
    ∷ (critical4 7, 0x412) ∷ (t4 7 1, 0x440) ∷ (t4 7 2, 0x441) ∷ (t4 7 3, 0x442) ∷ (t4 7 4, 0x443)
    ∷ (p4 7 1, 0x444) ∷ (p4 7 2, 0x445) ∷ (p4 7 3, 0x446) ∷ (p4 7 4, 0x447)
    ∷ (critical4 8, 0x413) ∷ (t4 8 1, 0x448) ∷ (t4 8 2, 0x449) ∷ (t4 8 3, 0x44A) ∷ (t4 8 4, 0x44B)
    ∷ (p4 8 1, 0x44C) ∷ (p4 8 2, 0x44D) ∷ (p4 8 3, 0x44E) ∷ (p4 8 4, 0x44F)
    ∷ (critical4 9, 0x414) ∷ (t4 9 1, 0x450) ∷ (t4 9 2, 0x451) ∷ (t4 9 3, 0x452) ∷ (t4 9 4, 0x453)
    ∷ (p4 9 1, 0x454) ∷ (p4 9 2, 0x455) ∷ (p4 9 3, 0x456) ∷ (p4 9 4, 0x457)
    ∷ (critical4 10, 0x415) ∷ (t4 10 1, 0x458) ∷ (t4 10 2, 0x459) ∷ (t4 10 3, 0x45A) ∷ (t4 10 4, 0x45B)
    ∷ (p4 10 1, 0x45C) ∷ (p4 10 2, 0x45D) ∷ (p4 10 3, 0x45E) ∷ (p4 10 4, 0x45F)
    ∷ (length (tables_of Nct7904d), 10) ∷ (length (positions (table_of Nct7904d 1)), 9) ∷ (length (positions (table_of Nct7904d 10)), 9)
    -- 7.1.10: "TEMP_CH1_HV - Bank 0 Address 42" to "LTD_LV - Bank 0 Address 63"; 7.1.16: "T_CPU1_HV - Bank 0 Address A0" to "T_CPU8_LV - Bank 0 Address AF"
    ∷ (high_of 0, 0x42) ∷ (low_of 0, 0x43) ∷ (high_of 1, 0x46) ∷ (low_of 1, 0x47) ∷ (high_of 2, 0x4A) ∷ (low_of 2, 0x4B) ∷ (high_of 3, 0x4E) ∷ (low_of 3, 0x4F) ∷ (high_of 4, 0x62) ∷ (low_of 4, 0x63)
    ∷ (high_of 5, 0xA0) ∷ (low_of 5, 0xA1) ∷ (high_of 6, 0xA2) ∷ (low_of 6, 0xA3) ∷ (high_of 7, 0xA4) ∷ (low_of 7, 0xA5) ∷ (high_of 8, 0xA6) ∷ (low_of 8, 0xA7)
    ∷ (high_of 9, 0xA8) ∷ (low_of 9, 0xA9) ∷ (high_of 10, 0xAA) ∷ (low_of 10, 0xAB) ∷ (high_of 11, 0xAC) ∷ (low_of 11, 0xAD) ∷ (high_of 12, 0xAE) ∷ (low_of 12, 0xAF)
    ∷ (length (sheet_of Nct7904d).temperatures, 13)
    -- 7.1.30: "Address FF", "2-0 BANK_SEL[2:0]"
    ∷ ((sheet_of Nct7904d).banks.select, 0xFF) ∷ ((sheet_of Nct7904d).banks.bits, 0x07)
    -- chip 5, source document 001, 8.11.2.17: "TD1Level01 - Bank 2 Address 30" to "TR2Level67 - Bank 2 Address 86"; 8.11.2.18: "TD1FanLevel0 - Bank 2
    -- Address 38" to "TR2FanLevel6 - Bank 2 Address 8E"; 8.11.2.9: "CriticalTemp - Bank 0 Address C5", "All Fan Full Speed Temperature"
    ∷ (t5 1 1, 0x230) ∷ (t5 1 2, 0x231) ∷ (t5 1 3, 0x232) ∷ (t5 1 4, 0x233) ∷ (t5 1 5, 0x234) ∷ (t5 1 6, 0x235) ∷ (t5 1 7, 0x236) ∷ (critical5 1, 0x0C5)
    ∷ (d5 1 1, 0x238) ∷ (d5 1 2, 0x239) ∷ (d5 1 3, 0x23A) ∷ (d5 1 4, 0x23B) ∷ (d5 1 5, 0x23C) ∷ (d5 1 6, 0x23D) ∷ (d5 1 7, 0x23E)
    ∷ (t5 2 1, 0x240) ∷ (t5 2 2, 0x241) ∷ (t5 2 3, 0x242) ∷ (t5 2 4, 0x243) ∷ (t5 2 5, 0x244) ∷ (t5 2 6, 0x245) ∷ (t5 2 7, 0x246) ∷ (critical5 2, 0x0C5)
    ∷ (d5 2 1, 0x248) ∷ (d5 2 2, 0x249) ∷ (d5 2 3, 0x24A) ∷ (d5 2 4, 0x24B) ∷ (d5 2 5, 0x24C) ∷ (d5 2 6, 0x24D) ∷ (d5 2 7, 0x24E)
    ∷ (t5 3 1, 0x250) ∷ (t5 3 2, 0x251) ∷ (t5 3 3, 0x252) ∷ (t5 3 4, 0x253) ∷ (t5 3 5, 0x254) ∷ (t5 3 6, 0x255) ∷ (t5 3 7, 0x256) ∷ (critical5 3, 0x0C5)
    ∷ (d5 3 1, 0x258) ∷ (d5 3 2, 0x259) ∷ (d5 3 3, 0x25A) ∷ (d5 3 4, 0x25B) ∷ (d5 3 5, 0x25C) ∷ (d5 3 6, 0x25D) ∷ (d5 3 7, 0x25E)
    ∷ (t5 4 1, 0x260) ∷ (t5 4 2, 0x261) ∷ (t5 4 3, 0x262) ∷ (t5 4 4, 0x263) ∷ (t5 4 5, 0x264) ∷ (t5 4 6, 0x265) ∷ (t5 4 7, 0x266) ∷ (critical5 4, 0x0C5)
    ∷ (d5 4 1, 0x268) ∷ (d5 4 2, 0x269) ∷ (d5 4 3, 0x26A) ∷ (d5 4 4, 0x26B) ∷ (d5 4 5, 0x26C) ∷ (d5 4 6, 0x26D) ∷ (d5 4 7, 0x26E)
    ∷ (t5 5 1, 0x270) ∷ (t5 5 2, 0x271) ∷ (t5 5 3, 0x272) ∷ (t5 5 4, 0x273) ∷ (t5 5 5, 0x274) ∷ (t5 5 6, 0x275) ∷ (t5 5 7, 0x276) ∷ (critical5 5, 0x0C5)
    ∷ (d5 5 1, 0x278) ∷ (d5 5 2, 0x279) ∷ (d5 5 3, 0x27A) ∷ (d5 5 4, 0x27B) ∷ (d5 5 5, 0x27C) ∷ (d5 5 6, 0x27D) ∷ (d5 5 7, 0x27E)
    ∷ (t5 6 1, 0x280) ∷ (t5 6 2, 0x281) ∷ (t5 6 3, 0x282) ∷ (t5 6 4, 0x283) ∷ (t5 6 5, 0x284) ∷ (t5 6 6, 0x285) ∷ (t5 6 7, 0x286) ∷ (critical5 6, 0x0C5)
    ∷ (d5 6 1, 0x288) ∷ (d5 6 2, 0x289) ∷ (d5 6 3, 0x28A) ∷ (d5 6 4, 0x28B) ∷ (d5 6 5, 0x28C) ∷ (d5 6 6, 0x28D) ∷ (d5 6 7, 0x28E)
    ∷ (length (tables_of W83793g), 6) ∷ (length (positions (table_of W83793g 1)), 15) ∷ (length (positions (table_of W83793g 6)), 15)
    -- "Bank 0, 1, 2 Address 00", "2-0 BANK Select"
    ∷ ((sheet_of W83793g).banks.select, 0x00) ∷ ((sheet_of W83793g).banks.bits, 0x07)
    -- and no others
    ∷ (length (sheet_of Nct7802y).temperatures, 1) ∷ (length (sheet_of F75373s).temperatures, 0) ∷ (length (sheet_of Nct80).temperatures, 1)
    ∷ (length (sheet_of W83793g).temperatures, 0)
    ∷ []

pub registers_stand : So (agree registers)
unfolding agree registers sheet_of
registers_stand = refl
