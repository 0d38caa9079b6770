-- A watch as numbers: its behaviour, and its facts as bits.
-- Assumes nothing.
use Rattle.std.specs.Prelude.{ℕ, ◌+◌, ◌*◌, ◌/◌, ◌%◌, Bool, cond, eqb}
use Rattle.watch.specs.declared.Behaviour.{Behaviour}
use Rattle.watch.specs.declared.Behaviour.TheVariants.{Default, OneTime, Comparator}
use Rattle.watch.specs.declared.Watch.{Watch}
use Rattle.watch.specs.Alarm.{shown}

-- 0 is default, 1 one-time, any other number comparator
abbrev pub behaviour_of : ℕ → Behaviour
behaviour_of number = cond (eqb number 0) Default (cond (eqb number 1) OneTime Comparator)

-- decoded: bit 0 is hot, bit 1 is pending, and the other bits are ignored
abbrev pub watch_of : ℕ → ℕ → Watch
watch_of behaviour facts =
    record { behaviour = behaviour_of behaviour; hot = eqb (facts % 2) 1; pending = eqb (facts / 2 % 2) 1 }

abbrev pub bit : Bool → ℕ
bit fact = cond fact 1 0

-- encoded: hot, pending and the output
unfoldable pub facts_of : Watch → ℕ
facts_of watch =
    bit watch.hot + 2 * bit watch.pending + 4 * bit (shown watch.behaviour watch.hot watch.pending)
