-- What each `yk_..` promises: what the library's own call promises of the same input, every byte of each lent buffer with it, and its answer packed.
-- Assumes nothing.
use Rattle.std.specs.Prelude.{ℕ, List, ℤ}
use Rattle.images.specs.Promises as images
use Rattle.identities.specs.Promises as identities
use Rattle.readings.specs.Readings.{as_word}
use Rattle.readings.specs.Promises as readings
use Rattle.right_readings.specs.Promises as right
use Rattle.watch.specs.Promises as watch
use Rattle.channels.specs.Promises as channels
use Rattle.states.specs.Promises as states
use Rattle.plans.specs.Promises as plans
use Rattle.records.specs.Promises as records
use Rattle.records.specs.Records.{plan_of}
use Rattle.scripts.specs.Promises as scripts
use Rattle.plays.specs.Promises as plays
use Rattle.translation.specs.Promises as translation
use Rattle.clib.specs.Facts.{watch_of}
use Rattle.clib.specs.Bodies.{write_body_checks, script_body_checks, play_body_checks}
use Rattle.clib.specs.Packed.{packed, packs_outcome, packs_amount, packs_byte, packs_reset, packs_asked, packs_bytes, packs_steps, packs_watch, packs_sampled, packs_found, Answers}

-- What each `yk_..` promises. A body and an input are only read, so they hold what they held.
abbrev pub YkWrite : ℕ → List ℕ → ℕ → ℕ → ℕ → List ℕ → Type 0
YkWrite chip old address byte r new = Answers packs_outcome (λ a. images.WritesByte chip old address byte a new) r

-- a read and a reset answer the facts too, and refused ones the facts as they were
abbrev pub YkRead : ℕ → List ℕ → ℕ → ℕ → ℕ → ℕ → List ℕ → Type 0
YkRead chip old address behaviour facts r new =
    Answers packs_byte (λ a. states.ReadsByte chip old address (watch_of behaviour facts) a new) r

abbrev pub YkReset : ℕ → List ℕ → ℕ → ℕ → ℕ → List ℕ → Type 0
YkReset chip old behaviour facts r new = Answers packs_reset (λ a. states.ResetsChip chip old (watch_of behaviour facts) a new) r

-- of chip 3, with the words of IN0 to IN6
abbrev pub YkSampleImage : List ℕ → ℕ → ℕ → ℤ → List ℕ → ℕ → List ℕ → Type 0
YkSampleImage old behaviour facts steps words r new =
    Answers packs_sampled (λ a. channels.SamplesChannels old (watch_of behaviour facts) steps words a new) r

abbrev pub YkIdentity : ℕ → List ℕ → ℕ → Type 0
YkIdentity chip image r = Answers packs_outcome (λ a. identities.Confirms chip image a) r

abbrev pub YkSteps : ℕ → ℕ → ℕ → ℕ → Type 0
YkSteps width high low r = Answers packs_steps (λ a. readings.CountsSteps width high low a) r

abbrev pub YkBytes : ℕ → ℤ → ℕ → Type 0
YkBytes width steps r = Answers packs_bytes (λ a. readings.GivesBytes width steps a) r

abbrev pub YkMicrovolts : ℕ → ℕ → Type 0
YkMicrovolts word r = Answers (λ v. packed 0 v) (λ v. readings.Measures word v) r

-- a count of steps, as a 16-bit two's complement number
abbrev pub YkRightSteps : ℕ → ℕ → ℕ → Type 0
YkRightSteps high low r = Answers (λ n. packed 0 (as_word n)) (λ n. right.CountsRight high low n) r

abbrev pub YkRightBytes : ℤ → ℕ → Type 0
YkRightBytes steps r = Answers packs_bytes (λ a. right.GivesRight steps a) r

abbrev pub YkInputMicrovolts : ℕ → ℕ → ℕ → ℕ → Type 0
YkInputMicrovolts input high low r = Answers (λ v. packed 0 v) (λ v. right.MeasuresInput input high low v) r

-- a refused sample answers the facts as they were
abbrev pub YkSample : ℕ → ℕ → ℤ → ℤ → ℤ → ℕ → Type 0
YkSample behaviour facts steps high hysteresis r =
    Answers packs_sampled (λ a. watch.Samples (watch_of behaviour facts) steps high hysteresis a) r

abbrev pub YkAcknowledge : ℕ → ℕ → ℕ → Type 0
YkAcknowledge behaviour facts r = Answers packs_watch (λ w. watch.Acknowledges (watch_of behaviour facts) w) r

-- the body of a record that is read stands in its bytes, from the fifth on
abbrev pub YkReadRecord : List ℕ → ℕ → Type 0
YkReadRecord bytes r = Answers packs_found (λ f. records.ReadsRecord bytes f) r

abbrev pub YkWriteRecord : ℕ → ℕ → List ℕ → List ℕ → ℕ → List ℕ → Type 0
YkWriteRecord chip table body old r new =
    Answers packs_amount (λ a. records.WritesRecordBy (write_body_checks chip table body old) (plan_of chip table body) old a new) r

abbrev pub YkAskedOfPlan : ℕ → ℕ → List ℕ → ℕ → ℕ → Type 0
YkAskedOfPlan chip table body t r =
    Answers packs_asked (λ a. plans.AsksPlanBy (records.body_checks chip table body) (plan_of chip table body) t a) r

abbrev pub YkAskedOfImage : ℕ → ℕ → List ℕ → ℕ → ℕ → Type 0
YkAskedOfImage chip table image t r = Answers packs_asked (λ a. plans.AsksImage chip table image t a) r

abbrev pub YkScript : ℕ → ℕ → List ℕ → List ℕ → ℕ → List ℕ → Type 0
YkScript chip table body old r new =
    Answers packs_amount (λ a. scripts.ScriptsBy (script_body_checks chip table body old) (plan_of chip table body) old a new) r

abbrev pub YkPlay : ℕ → ℕ → List ℕ → List ℕ → ℕ → ℕ → List ℕ → Type 0
YkPlay chip table body old count r new =
    Answers packs_amount (λ a. plays.PlaysBy (play_body_checks chip table body old) (plan_of chip table body) old count a new) r

abbrev pub YkTranslate : List ℕ → List ℕ → ℕ → List ℕ → Type 0
YkTranslate input old r new = Answers packs_amount (λ a. translation.Translates input old a new) r

-- samples in turn; "A refused sample changes neither fact", and the call itself is never refused
abbrev pub YkRun : ℕ → ℕ → List ℤ → ℤ → ℤ → ℕ → Type 0
YkRun behaviour facts samples high hysteresis r =
    Answers packs_watch (λ w. watch.Runs (watch_of behaviour facts) samples high hysteresis w) r
