-- "The alarm watch (chip 3)": what a sample and an acknowledge make of a watch, and what a run of them does.
-- Assumes nothing.
use Rattle.std.specs.Prelude.{Bool, true, false, not, ◌&&◌, ◌||◌, cond, List, [], ◌∷◌, map, ℤ, pos, neg_ℤ, ◌*ℤ◌}
use Rattle.std.specs.Int.Signed.{le_z, lt_z}
use Rattle.watch.specs.declared.Behaviour.{Behaviour}
use Rattle.watch.specs.declared.Behaviour.TheVariants.{Default, OneTime, Comparator}
use Rattle.watch.specs.declared.Watch.{Watch}

-- "A watch has one of them for good, and two facts, hot and pending, both off at first"
abbrev pub fresh : Behaviour → Watch
fresh behaviour = record { behaviour = behaviour; hot = false; pending = false }

-- "whole degrees .., each compared as 16 times as many steps"
abbrev pub in_steps : ℤ → ℤ
in_steps degrees = pos 16 *ℤ degrees

-- "If the sample is above the high limit, hot goes on; otherwise, if it is below the hysteresis limit, hot goes off; otherwise hot stays"
abbrev pub hot_after : Bool → ℤ → ℤ → ℤ → Bool
hot_after hot steps high hysteresis =
    cond (lt_z (in_steps high) steps) true (cond (lt_z steps (in_steps hysteresis)) false hot)

-- "in default, pending goes on if hot is on; in one-time, only if hot went from off to on in this sample; in comparator, never"
abbrev pub goes_on : Behaviour → Bool → Bool → Bool
goes_on Default was hot = hot
goes_on OneTime was hot = not was && hot
goes_on Comparator was hot = false

abbrev pub pending_after : Behaviour → Bool → Bool → Bool → Bool
pending_after behaviour was hot pending = goes_on behaviour was hot || pending

abbrev pub taken : Watch → ℤ → ℤ → ℤ → Watch
taken watch steps high hysteresis =
    let hot : Bool = hot_after watch.hot steps high hysteresis in
    record { behaviour = watch.behaviour; hot = hot; pending = pending_after watch.behaviour watch.hot hot watch.pending }

-- "An alarm sample is a 12-bit step count"
abbrev pub is_sample : ℤ → Bool
is_sample steps = le_z (neg_ℤ (pos 2048)) steps && le_z steps (pos 2047)

-- "An acknowledge turns pending off and keeps hot"
abbrev pub acknowledged : Watch → Watch
acknowledged watch = record { behaviour = watch.behaviour; hot = watch.hot; pending = false }

-- "The output is hot in comparator, pending in the other two"
abbrev pub shown : Behaviour → Bool → Bool → Bool
shown Default hot pending = pending
shown OneTime hot pending = pending
shown Comparator hot pending = hot

-- "A sample comes with the high limit and the hysteresis limit"
pub data Event : Type 0 where
  sample : ℤ → ℤ → ℤ → Event
  acknowledge : Event

-- "A refused sample changes neither fact"
abbrev pub after : Watch → Event → Watch
after watch (sample steps high hysteresis) = cond (is_sample steps) (taken watch steps high hysteresis) watch
after watch acknowledge = acknowledged watch

-- a run: the single steps in turn
abbrev pub run : Watch → List Event → Watch
run watch [] = watch
run watch (e ∷ es) = run (after watch e) es

-- recorded samples, each with the same limits
abbrev pub recorded : ℤ → ℤ → List ℤ → List Event
recorded high hysteresis samples = map (λ (steps : ℤ). sample steps high hysteresis) samples
