-- `w83793g::ground` meets its contract: each table has its registers there and their masks are the card's, by computation.
use Rattle.std.proofs.Common.{◌≡◌, ℕ, zero, suc, ◌+◌, ◌*◌, ◌≤◌, arith, refl, sym, ◌∙◌}
use Rattle.pages.specs.declared.Chip.TheVariants.{W83793g}
use Rattle.pages.specs.declared.Ground.{Ground}
use Rattle.pages.specs.Rows.{mask_of, stretch}
use Rattle.pages.specs.W83793g.{card}
use Rattle.pages.specs.W83793gBank0 as bank0
use Rattle.pages.specs.W83793gBank1 as bank1
use Rattle.pages.specs.W83793gBank2 as bank2
use Rattle.pages.specs.Cards.{sheet_of, ground_of}
use Rattle.pages.proofs.Tables.{no_ground}
use Rattle.w83793g.proofs.ground.Goals as goal

-- what `in_table` makes of a first register
abbrev made : ℕ → Ground
made first = record { settings = stretch first 7 (mask_of 0x7F); last = stretch 0xC5 1 (mask_of 0x7F); speeds = stretch (first + 8) 7 (mask_of 0x3F) }

-- the tables stand 10h apart
stands : (number : ℕ) → 1 ≤ number → number ≤ 6 → made (0x220 + 0x10 * number) ≡ ground_of W83793g number
unfolding sheet_of card bank0.bank bank1.bank bank2.bank
stands zero h l = absurd (omega (arith, h))
stands (suc zero) h l = refl
stands (suc (suc zero)) h l = refl
stands (suc (suc (suc zero))) h l = refl
stands (suc (suc (suc (suc zero)))) h l = refl
stands (suc (suc (suc (suc (suc zero))))) h l = refl
stands (suc (suc (suc (suc (suc (suc zero)))))) h l = refl
stands (suc (suc (suc (suc (suc (suc (suc n))))))) h l = absurd (omega (arith, l))

pub returns-in-1-to-6 : goal.returns-in-1-to-6
returns-in-1-to-6 c = record { answer = c.in_table.ensures ∙ stands c.args.number (omega arith) (omega arith) }

pub returns-in_default : goal.returns-in_default
unfolding sheet_of
returns-in_default c = record { answer = sym (no_ground (sheet_of W83793g) c.args.number (λ p q. omega arith)) }

pub returns-in_default-2 : goal.returns-in_default-2
unfolding sheet_of
returns-in_default-2 c = record { answer = sym (no_ground (sheet_of W83793g) c.args.number (λ p q. omega arith)) }
