-- A read by where it lands: a status register is cleared and the alarm acknowledged, and no other read changes anything.
-- Assumes nothing.
use Prim.Native.Nat.{ℕ}
use mathlib.Core.Path.{◌≡◌, ap}
use mathlib.Core.Bool.{Bool, true, false, cond}
use lib.ListN.{set}
use Rattle.pages.specs.declared.Chip.{Chip}
use Rattle.pages.specs.Cards.{is_status}
use Rattle.images.specs.Bytes.{position}
use Rattle.watch.specs.Alarm.{acknowledged}
use Rattle.channels.specs.Channels.{State}
use Rattle.states.specs.States.{after_read}

module _ (chip : Chip) (address : ℕ) (state : State) where
  abbrev at : ℕ
  at = position chip state.image address

  abbrev cleared : State
  cleared = record { image = set state.image at 0; watch = acknowledged state.watch }

  -- "Every other read changes nothing."
  pub read_plain : is_status chip at ≡ false → after_read chip address state ≡ state
  unfolding after_read
  read_plain e = ap (λ (b : Bool). cond b cleared state) e

  pub read_status : is_status chip at ≡ true → after_read chip address state ≡ cleared
  unfolding after_read
  read_status e = ap (λ (b : Bool). cond b cleared state) e
