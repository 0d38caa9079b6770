-- The starred figures of the rules paper hold of the definitions, as a single list under a single claim: each is computed.
-- Assumes nothing.
use Prim.Native.Nat.{ℕ}
use mathlib.Core.Path.{◌≡◌, refl}
use mathlib.Core.Bool.{Bool, true, false}
use mathlib.Core.List.{List, [], ◌∷◌}
use lib.IntN.{ℤ, pos, neg_ℤ}
use Rattle.refusal.specs.Checks.{first, told_or}
use Rattle.pages.specs.declared.Chip.{Chip}
use Rattle.pages.specs.declared.Chip.TheVariants.{Nct7802y, F75373s}
use Rattle.pages.specs.Cards.{sheet_of, shape_of}
use Rattle.readings.specs.Readings.{bytes_of, steps_at}
use Rattle.readings.specs.Promises.{steps_checks, bytes_checks}
use Rattle.watch.specs.declared.Behaviour.{Behaviour}
use Rattle.watch.specs.declared.Behaviour.TheVariants.{Default, OneTime}
use Rattle.watch.specs.Alarm.{Event, sample, acknowledge, fresh, run}
use Rattle.curves.specs.Curves.{mean, above, below, slope, words}
use Rattle.curves.specs.Curves as curves
use Rattle.curves.specs.Planned.{asks}

-- a figure: at a width, the steps of a word, or the number of the refusal of some steps, 0 where they fit; the speed that a curve in a
-- chip's fan table asks at a temperature; a fact of a new watch after a run
pub data Figure : Type 0 where
  word : ℕ → ℕ → ℤ → Figure
  steps : ℕ → ℤ → ℕ → Figure
  speed : Chip → ℕ → List ℕ → List ℕ → ℕ → ℕ → Figure
  pending hot : Behaviour → List Event → Bool → Figure

abbrev pub Holds : Figure → Type 0
Holds (word w n s) = told_or (pos 0) (steps_checks w) (steps_at w (bytes_of n).0 (bytes_of n).1) ≡ (0, s)
Holds (steps w s refusal) = first (bytes_checks w s) ≡ refusal
Holds (speed chip table settings speeds t asked) = asks (shape_of chip table) (record { settings = settings; speeds = speeds }) t ≡ asked
Holds (pending behaviour events on) = (run (fresh behaviour) events).pending ≡ on
Holds (hot behaviour events on) = (run (fresh behaviour) events).hot ≡ on

abbrev pub AllHold : List Figure → Type 0
AllHold [] = Unit {0}
AllHold (f ∷ fs) = Holds f × AllHold fs

-- "The plan above"
abbrev paper : ℕ → ℕ → Figure
paper = speed Nct7802y 3 (0x1E ∷ 0x28 ∷ 0x32 ∷ 0x37 ∷ 0x3C ∷ []) (0x8C ∷ 0xAA ∷ 0xC8 ∷ 0xE6 ∷ [])

-- counts 0102h, 0203h, 0304h, 0405h, 0506h
abbrev stepped : ℕ → ℕ → Figure
stepped = speed F75373s 1 (60 ∷ 50 ∷ 40 ∷ 30 ∷ []) (1 ∷ 2 ∷ 2 ∷ 3 ∷ 3 ∷ 4 ∷ 4 ∷ 5 ∷ 5 ∷ 6 ∷ [])

-- "Limits 80 and 75 degrees"
abbrev at : ℤ → Event
at s = sample s (pos 80) (pos 75)

abbrev pub starred : List Figure
starred =
    -- "Width 12: 7D00h is 2000, FFF0h is -1, C900h is -880."
    word 12 0x7D00 (pos 2000)
    ∷ word 12 0xFFF0 (neg_ℤ (pos 1))
    ∷ word 12 0xC900 (neg_ℤ (pos 880))
    -- "Width 9: C900h is -110." "Width 11: E7A0h is -195."
    ∷ word 9 0xC900 (neg_ℤ (pos 110))
    ∷ word 11 0xE7A0 (neg_ℤ (pos 195))
    -- "32 steps at width 9 fit; 256 is refused 12, 255 and -256 fit."
    ∷ steps 9 (pos 32) 0
    ∷ steps 9 (pos 256) 12
    ∷ steps 9 (pos 255) 0
    ∷ steps 9 (neg_ℤ (pos 256)) 0
    -- "The plan above asks 140 at 30, 149 at 33, 185 at 45, 218 at 53, 230 at 58, 255 at 60."
    ∷ paper 30 140
    ∷ paper 33 149
    ∷ paper 45 185
    ∷ paper 53 218
    ∷ paper 58 230
    ∷ paper 60 255
    -- "Unordered T1 = 50, T2 = 40 and critical 100: at 45 the duty is FL1."
    ∷ speed Nct7802y 1 (50 ∷ 40 ∷ 60 ∷ 70 ∷ 100 ∷ []) (11 ∷ 22 ∷ 33 ∷ 44 ∷ []) 45 11
    -- "FL1 = 200, FL2 = 100, T1 = 0, T2 = 3, critical 100: at 1 the duty is 166."
    ∷ speed Nct7802y 1 (0 ∷ 3 ∷ 60 ∷ 70 ∷ 100 ∷ []) (200 ∷ 100 ∷ 33 ∷ 44 ∷ []) 1 166
    -- "samples of 81, 78, acknowledge, 78 degrees .. in default and one-time pending is on, on, off, then on in default and off in one-time."
    ∷ pending Default (at (pos 1296) ∷ []) true
    ∷ pending Default (at (pos 1296) ∷ at (pos 1248) ∷ []) true
    ∷ pending Default (at (pos 1296) ∷ at (pos 1248) ∷ acknowledge ∷ []) false
    ∷ pending Default (at (pos 1296) ∷ at (pos 1248) ∷ acknowledge ∷ at (pos 1248) ∷ []) true
    ∷ pending OneTime (at (pos 1296) ∷ []) true
    ∷ pending OneTime (at (pos 1296) ∷ at (pos 1248) ∷ []) true
    ∷ pending OneTime (at (pos 1296) ∷ at (pos 1248) ∷ acknowledge ∷ []) false
    ∷ pending OneTime (at (pos 1296) ∷ at (pos 1248) ∷ acknowledge ∷ at (pos 1248) ∷ []) false
    -- "Exactly 80 doesn't turn hot on; exactly 75 doesn't turn it off."
    ∷ hot Default (at (pos 1280) ∷ []) false
    ∷ hot Default (at (pos 1296) ∷ at (pos 1200) ∷ []) true
    -- "B1 = 60, B2 = 50: 61 asks C1, 60 and 51 ask C2."
    ∷ stepped 61 0x0102
    ∷ stepped 60 0x0203
    ∷ stepped 51 0x0203
    ∷ []

pub starred_hold : AllHold starred
unfolding sheet_of mean above below slope curves.step_rule words
starred_hold =
    (refl, (refl, (refl, (refl, (refl, (refl, (refl, (refl, (refl, (refl, (refl, (refl, (refl, (refl, (refl, (refl, (refl, (refl, (refl, (refl, (refl, (refl, (refl, (refl, (refl, (refl, (refl, (refl, (refl, (refl, tt))))))))))))))))))))))))))))))
