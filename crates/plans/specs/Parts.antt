-- The contracts of the parts of `plans`: registers asked one after the other.
-- Assumes nothing.
use Rattle.std.specs.Prelude.{ℕ, zero, suc, Bool, true, cond, ◌&&◌, List, eqb, get_or}
use Rattle.std.specs.Int.Bits.{bit_and}
use Rattle.pages.specs.declared.Chip.{Chip}
use Rattle.pages.specs.declared.Layout.{Layout}
use Rattle.pages.specs.declared.Register.{Register}
use Rattle.pages.specs.Sheets.{register_in}
use Rattle.pages.specs.Cards.{sheet_of}
use Rattle.curves.specs.declared.Plan.{Plan}
use Rattle.curves.specs.Planned.{planned}
use Rattle.bodies.specs.Bodies.{body}
use Rattle.plans.specs.declared.tables.Fitting.{Fitting}

-- the writable bits of a register
abbrev pub worth_at : Register → List ℕ → ℕ
worth_at register image = bit_and (get_or image register.position 0) register.masks.writable

-- n registers, from one place on, can hold the values of these places
abbrev pub fit_from : (ℕ → Register) → List ℕ → ℕ → ℕ → Bool
fit_from register values place zero = true
fit_from register values place (suc n) =
    eqb (bit_and (get_or values place 0) (register place).masks.writable) (get_or values place 0) && fit_from register values (suc place) n

-- .. and so a plan's settings, and its speeds, by its table's layout
abbrev pub plan_fits : Chip → Plan → Layout → ℕ → ℕ → Bool
plan_fits chip plan layout place n =
    cond layout.whole true (fit_from (register_in (sheet_of chip) plan.table) (body (planned layout.shape plan)) place n)

abbrev pub fitting_of : Chip → Plan → Layout → Fitting
fitting_of chip plan layout =
    record { settings = plan_fits chip plan layout 0 layout.settings; speeds = plan_fits chip plan layout layout.settings layout.speeds }
