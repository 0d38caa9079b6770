-- "Status bits live in the chip": what a read on the bus and a reset make of a chip's state.
-- Assumes nothing.
use Rattle.std.specs.Prelude.{ℕ, cond, eqb, length, set}
use Rattle.pages.specs.declared.Chip.{Chip}
use Rattle.pages.specs.Cards.{sheet_of, is_status, power_on}
use Rattle.images.specs.Bytes.{position}
use Rattle.watch.specs.declared.Watch.{Watch}
use Rattle.watch.specs.Alarm.{fresh, acknowledged}
use Rattle.channels.specs.Channels.{State}

-- "Reading 01h or 02h returns the byte and then clears it, and counts as the acknowledge": pending goes off and hot stays, also where the byte was 00h.
-- Every other read changes nothing. What it gives is `seen`, of the image before.
unfoldable pub after_read : Chip → ℕ → State → State
after_read chip address state =
    let at : ℕ = position chip state.image address in
    cond (is_status chip at) (record { image = set state.image at 0; watch = acknowledged state.watch }) state

-- "A reset turns both facts off" and keeps the behaviour, of a chip that has status registers; other chips carry the watch unchanged.
abbrev pub rested : Chip → Watch → Watch
rested chip watch = cond (eqb (length (sheet_of chip).status) 0) watch (fresh watch.behaviour)

abbrev pub after_reset : Chip → State → State
after_reset chip state = record { image = power_on chip; watch = rested chip state.watch }
