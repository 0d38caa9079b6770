-- What a host engineer relies on, over runs of any length: runs join, the behaviour stays, and when each behaviour's pending can go on.
-- Assumes nothing.
use mathlib.Core.Path.{◌≡◌, refl, sym, ap, ◌∙◌}
use mathlib.Core.Bool.{Bool, true, false, true≢false, cond}
use mathlib.Core.List.{List, [], ◌∷◌, ◌++◌, map-append}
use native.Mathlib.Nat.{le_refl}
use lib.IntN.{ℤ, pos, negsuc}
use lib.Signed.{lt_z}
use borrow.Author.Tests.{le-ltb}
use Rattle.watch.specs.declared.Behaviour.TheVariants.{Default, OneTime, Comparator}
use Rattle.watch.specs.declared.Watch.{Watch}
use Rattle.watch.specs.Alarm.{fresh, in_steps, hot_after, is_sample, taken, acknowledged, Event, sample, acknowledge, after, run, recorded}
use Rattle.watch.specs.Promises.{Runs}

-- a run equals the single steps in turn, wherever it is cut
pub run_append : (watch : Watch) (a b : List Event) → run watch (a ++ b) ≡ run (run watch a) b
run_append watch [] b = refl
run_append watch (e ∷ a) b = run_append (after watch e) a b

-- so two calls of `watch::Watch::run` with the same limits, one after the other, are one over both records
pub runs_join : {watch r s : Watch} {a b : List ℤ} {high hysteresis : ℤ} → Runs watch a high hysteresis r → Runs r b high hysteresis s → Runs watch (a ++ b) high hysteresis s
runs_join {watch} {r} {s} {a} {b} {high} {hysteresis} p q =
    record { answer = q.answer ∙ ap (λ (w : Watch). run w (recorded high hysteresis b)) p.answer ∙ sym (run_append watch (recorded high hysteresis a) (recorded high hysteresis b)) ∙ ap (run watch) (sym (map-append (λ (steps : ℤ). sample steps high hysteresis) a b)) }

-- what a sample keeps, taken or refused
picked : {A : Type 0} (f : Watch → A) (b : Bool) (new old : Watch) → f new ≡ f old → f (cond b new old) ≡ f old
picked f true new old e = e
picked f false new old e = refl

behaviour_after : (watch : Watch) (e : Event) → (after watch e).behaviour ≡ watch.behaviour
behaviour_after watch (sample s high hysteresis) = picked (λ w. w.behaviour) (is_sample s) (taken watch s high hysteresis) watch refl
behaviour_after watch acknowledge = refl

-- "A watch has one of them for good"
pub behaviour_stays : (watch : Watch) (events : List Event) → (run watch events).behaviour ≡ watch.behaviour
behaviour_stays watch [] = refl
behaviour_stays watch (e ∷ events) = behaviour_stays (after watch e) events ∙ behaviour_after watch e

-- "An acknowledge turns pending off and keeps hot"
pub acknowledge_keeps_hot : (watch : Watch) (events : List Event) → ((run watch (events ++ acknowledge ∷ [])).pending ≡ false) × ((run watch (events ++ acknowledge ∷ [])).hot ≡ (run watch events).hot)
acknowledge_keeps_hot watch events = rw (run_append watch events (acknowledge ∷ [])) (refl, refl)

-- "A refused sample changes neither fact"
pub refused_changes_nothing : (watch : Watch) (steps high hysteresis : ℤ) → is_sample steps ≡ false → after watch (sample steps high hysteresis) ≡ watch
refused_changes_nothing watch steps high hysteresis e = rw e

not_below_itself : (z : ℤ) → lt_z z z ≡ false
not_below_itself (pos n) = le-ltb n n (le_refl n)
not_below_itself (negsuc n) = le-ltb n n (le_refl n)

off_either_way : (b : Bool) → cond b false false ≡ false
off_either_way true = refl
off_either_way false = refl

on_either_way : (b : Bool) → cond b true true ≡ true
on_either_way true = refl
on_either_way false = refl

-- exactly at a limit nothing changes, whatever the other limit is
pub at_the_high_limit : (high hysteresis : ℤ) → hot_after false (in_steps high) high hysteresis ≡ false
at_the_high_limit high hysteresis = rw (not_below_itself (in_steps high)) (off_either_way (lt_z (in_steps high) (in_steps hysteresis)))

pub at_the_hysteresis_limit : (high hysteresis : ℤ) → hot_after true (in_steps hysteresis) high hysteresis ≡ true
at_the_hysteresis_limit high hysteresis = rw (not_below_itself (in_steps hysteresis)) (on_either_way (lt_z (in_steps high) (in_steps hysteresis)))

-- a step in which pending does not go on: in comparator any, in one-time any that finds hot on
comparator_after : (watch : Watch) (e : Event) → watch.behaviour ≡ Comparator → watch.pending ≡ false → (after watch e).pending ≡ false
comparator_after watch (sample s high hysteresis) b p = picked (λ w. w.pending) (is_sample s) (taken watch s high hysteresis) watch (rw b) ∙ p
comparator_after watch acknowledge b p = refl

one_time_after : (watch : Watch) (e : Event) → watch.behaviour ≡ OneTime → watch.hot ≡ true → watch.pending ≡ false → (after watch e).pending ≡ false
one_time_after watch (sample s high hysteresis) b h p = picked (λ w. w.pending) (is_sample s) (taken watch s high hysteresis) watch (rw (b, h)) ∙ p
one_time_after watch acknowledge b h p = refl

comparator_run : (watch : Watch) (events : List Event) → watch.behaviour ≡ Comparator → watch.pending ≡ false → (run watch events).pending ≡ false
comparator_run watch [] b p = p
comparator_run watch (e ∷ events) b p = comparator_run (after watch e) events (behaviour_after watch e ∙ b) (comparator_after watch e b p)

-- "in comparator, never"
pub comparator_never : (events : List Event) → (run (fresh Comparator) events).pending ≡ false
comparator_never events = comparator_run (fresh Comparator) events refl refl

-- hot is off after some first part of the events
abbrev pub Cooled : Watch → List Event → Type 0
Cooled watch events = (a : List Event) × ((b : List Event) × ((events ≡ a ++ b) × ((run watch a).hot ≡ false)))

one_time_run : (watch : Watch) (events : List Event) → watch.behaviour ≡ OneTime → watch.pending ≡ false → (run watch events).pending ≡ true → Cooled watch events
one_time_run watch [] b p t = absurd (true≢false (sym t ∙ p))
one_time_run watch (e ∷ events) b p t =
    go watch.hot refl (λ q. one_time_run (after watch e) events (behaviour_after watch e ∙ b) q t)
  where
    go : (h : Bool) → watch.hot ≡ h → ((after watch e).pending ≡ false → Cooled (after watch e) events) → Cooled watch (e ∷ events)
    go false h later = ([], (e ∷ events, (refl, h)))
    go true h later =
        let c = later (one_time_after watch e b h p) in
        (e ∷ c.0, (c.1.0, (ap (λ (es : List Event). e ∷ es) c.1.1.0, c.1.1.1)))

-- in one-time a second alarm, one after an acknowledge, needs hot to have gone off first
pub one_time_second_alarm : (before later : List Event) → (run (fresh OneTime) (before ++ acknowledge ∷ later)).pending ≡ true → Cooled (acknowledged (run (fresh OneTime) before)) later
one_time_second_alarm before later t =
    one_time_run (acknowledged (run (fresh OneTime) before)) later (behaviour_stays (fresh OneTime) before) refl
    (rw (run_append (fresh OneTime) before (acknowledge ∷ later)) at t)

-- in default each taken sample that leaves hot on is an alarm, acknowledged before or not
pub default_alarms_again : (watch : Watch) (steps high hysteresis : ℤ) → watch.behaviour ≡ Default → is_sample steps ≡ true → (after watch (sample steps high hysteresis)).hot ≡ true → (after watch (sample steps high hysteresis)).pending ≡ true
default_alarms_again watch steps high hysteresis b s h =
    let hot : hot_after watch.hot steps high hysteresis ≡ true = rw s at h in
    rw (s, b, hot)
