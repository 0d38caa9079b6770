-- Demands 1 and 2, in the customer's words, of the answers that callers get. Demand 3 is `Demand3` of `plays`.
-- Assumes nothing.
use Rattle.std.specs.Prelude.{ℕ, ◌≤◌, ◌<◌, ◌/◌, ◌%◌, ◌≡◌, Bool, true, not, List, [], ◌∷◌, ◌++◌, ℤ, pos, length, get_or, take, drop, Result, Option, Ok, Some, ⊤}
use Rattle.refusal.specs.declared.Refusal.{Refusal}
use Rattle.refusal.specs.Promises.{Numbers}
use Rattle.refusal.specs.Answers.{tells, tells_amount}
use Rattle.refusal.specs.Checks.{Check, first, room_checks}
use Rattle.pages.specs.declared.Chip.{Chip}
use Rattle.pages.specs.declared.Ground.{Ground}
use Rattle.pages.specs.declared.Layout.{Layout}
use Rattle.pages.specs.declared.Masks.{Masks}
use Rattle.pages.specs.declared.Register.{Register}
use Rattle.pages.specs.declared.Shape.{Shape}
use Rattle.pages.specs.Banks.{one_bank}
use Rattle.pages.specs.Sheets.{missing, layout}
use Rattle.pages.specs.Cards.{chip_of, unknown, has_table, tells_named, tells_fan}
use Rattle.pages.specs.Promises.{Names, Finds, Acts, Reports, PowersOn, TellsSizes, Requires, Lays, LaysOut, Stands, Selects, Positions, GoesWith, StandsInOneRow, StandsAt}
use Rattle.pages.specs.Identity.{confirmed}
use Rattle.images.specs.Promises as images
use Rattle.identities.specs.Promises.{identity_checks, Confirms}
use Rattle.readings.specs.Readings.{cleared}
use Rattle.readings.specs.Promises as readings
use Rattle.right_readings.specs.Promises as right
use Rattle.watch.specs.declared.Behaviour.{Behaviour}
use Rattle.watch.specs.declared.Watch.{Watch}
use Rattle.watch.specs.declared.Refused.{Refused}
use Rattle.watch.specs.Promises as watch
use Rattle.channels.specs.Promises as channels
use Rattle.states.specs.Promises as states
use Rattle.curves.specs.declared.Plan.{Plan}
use Rattle.curves.specs.Values.{Sized}
use Rattle.curves.specs.Promises as curves
use Rattle.bodies.specs.Promises as bodies
use Rattle.plans.specs.Promises as plans
use Rattle.records.specs.declared.Found.{Found}
use Rattle.records.specs.Promises as records
use Rattle.records.specs.Records.{no_plan, own}
use Rattle.scripts.specs.Promises as scripts
use Rattle.plays.specs.Promises as plays
use Rattle.translation.specs.Promises as translation
use Rattle.translation.specs.Text.{text_of}
use Rattle.clib.specs.Facts.{watch_of, facts_of}
use Rattle.clib.specs.Packed.{with_byte}
use Rattle.clib.specs.Bodies.{write_body_checks, script_body_checks, play_body_checks}
use Rattle.clib.specs.Promises.{YkWrite, YkRead, YkReset, YkSampleImage, YkIdentity, YkSteps, YkBytes, YkMicrovolts, YkRightSteps, YkRightBytes, YkInputMicrovolts, YkSample, YkAcknowledge, YkRun, YkReadRecord, YkWriteRecord, YkAskedOfPlan, YkAskedOfImage, YkScript, YkPlay, YkTranslate}

-- Of an answer that tells a number and values: the number is that of the first check that applies, and where it is not 0 "zero in every other part of
-- the answer" ..
pub record Answered {A : Type 0} (checks : List Check) (none : A) (told : ℕ × A) : Type 0 where
  pub number : told.0 ≡ first checks
  pub zero : (told.0 ≡ 0 → ⊥) → told.1 ≡ none

-- .. "and each lent buffer holds what it held"
abbrev pub Kept : ℕ → List ℕ → List ℕ → Type 0
Kept number old new = (number ≡ 0 → ⊥) → new ≡ old

-- Of a call that gives no number and refuses nothing: there is an answer, and what it leaves in a lent buffer, whatever comes in.
pub record Given {A : Type 0} (Promise : A → Type 0) : Type 0 where
  pub answer : A
  pub kept : Promise answer

-- a verdict has a number and no other part; what is found of a plan has a count and the plan
abbrev pub verdict : Result ⊤ Refusal → ℕ × Unit {0}
verdict r = (tells r, tt)

abbrev pub tells_found : Found → ℕ × (ℕ × Plan)
tells_found r = ((tells_amount r.answer).0, ((tells_amount r.answer).1, r.plan))

-- the number that crosses, taken apart: the refusal is its low byte, the value the rest
abbrev pub unpacked : ℕ → ℕ × ℕ
unpacked r = (r % 256, r / 256)

-- "Every input is answered .. A refusal carries its number from the rules paper, a count of zero, and no lent byte altered", call by call. That every
-- input is answered is that no call has a condition on what it is given; a slice that is only read keeps its bytes by its type.
pub record Demand1 : Type 0 where
  pub number : (refusal : Refusal) → Given (λ n. Numbers refusal n)
  pub chip_of : (number : ℕ) (r : Result Chip Refusal) → Names number r → Answered ((unknown number, 3) ∷ []) 0 (tells_named r)
  pub masks_of : (chip : Chip) (position : ℕ) → Given (λ masks. Finds chip position masks)
  pub effects_of : (chip : Chip) (position : ℕ) → Given (λ effects. Acts chip position effects)
  pub is_status : (chip : Chip) (position : ℕ) → Given (λ r. Reports chip position r)
  pub power_on_of : (chip : Chip) (position : ℕ) → Given (λ byte. PowersOn chip position byte)
  pub sizes_of : (chip : Chip) → Given (λ sizes. TellsSizes chip sizes)
  pub required_of : (chip : Chip) (k : ℕ) → Given (λ required. Requires chip k required)
  pub table_of : (chip : Chip) (number : ℕ) (r : Option Layout) → Lays chip number r
      → Answered ((not (has_table chip number), 4) ∷ []) (layout one_bank [] missing) (tells_fan r)
  pub layout_of : (chip : Chip) (number : ℕ) → Given (λ facts. LaysOut chip number facts)
  pub ground_of : (chip : Chip) (number : ℕ) → Given (λ stretches. Stands chip number stretches)
  pub selector_of : (chip : Chip) → Given (λ selector. Selects chip selector)
  pub position_of : (chip : Chip) (bank address : ℕ) → Given (λ position. Positions chip bank address position)
  pub goes_with : (layout : Layout) (points : ℕ) → Given (λ r. GoesWith layout points r)
  pub one_row : (first settings speeds : ℕ) (masks : Masks) → Given (λ stretches. StandsInOneRow first settings speeds masks stretches)
  pub register_at : (stretches : Ground) (k : ℕ) → Given (λ register. StandsAt stretches k register)
  -- register images
  pub admit : (chip size : ℕ) (r : Result Chip Refusal) → images.Admits chip size r → Answered (images.size_checks chip size) 0 (images.tells_admitted r)
  pub write : (chip : ℕ) (old : List ℕ) (address byte : ℕ) (r : Result ⊤ Refusal) (new : List ℕ) → images.WritesByte chip old address byte r new
      → Answered (images.image_checks chip old) tt (verdict r) × Kept (tells r) old new
  pub place : (register : Register) (byte : ℕ) (old : List ℕ) → Given (λ new. images.Places register byte old new)
  pub look : (chip : Chip) (image : List ℕ) (address : ℕ) → Given (λ r. images.Looks chip image address r)
  pub reset : (chip : ℕ) (old : List ℕ) (r : Result ⊤ Refusal) (new : List ℕ) → images.Resets chip old r new
      → Answered (images.image_checks chip old) tt (verdict r) × Kept (tells r) old new
  pub confirm : (chip : ℕ) (image : List ℕ) (r : Result ⊤ Refusal) → Confirms chip image r → Answered (identity_checks chip image) tt (verdict r)
  -- readings
  pub steps_of : (width high low : ℕ) (r : Result ℤ Refusal) → readings.CountsSteps width high low r
      → Answered (readings.steps_checks width) (pos 0) (readings.tells_steps r)
  pub as_word : (number : ℤ) → Given (λ word. readings.Encodes number word)
  pub bytes_of : (width : ℕ) (steps : ℤ) (r : Result (ℕ × ℕ) Refusal) → readings.GivesBytes width steps r
      → Answered (readings.bytes_checks width steps) (0, 0) (readings.tells_bytes r)
  pub microvolts : (word : ℕ) → Given (λ v. readings.Measures word v)
  pub right_steps : (high low : ℕ) → Given (λ n. right.CountsRight high low n)
  pub right_bytes : (steps : ℤ) (r : Result (ℕ × ℕ) Refusal) → right.GivesRight steps r → Answered (right.right_checks steps) (0, 0) (readings.tells_bytes r)
  pub input_microvolts : (input high low : ℕ) → Given (λ v. right.MeasuresInput input high low v)
  -- the watch: "a watch comes back unchanged"
  pub watch_new : (behaviour : Behaviour) → Given (λ w. watch.Starts behaviour w)
  pub watch_sample : (w : Watch) (steps high hysteresis : ℤ) (r : Result Watch Refused) → watch.Samples w steps high hysteresis r
      → Answered (watch.sample_checks steps) w (watch.tells_sampled r)
  pub watch_acknowledge : (w : Watch) → Given (λ r. watch.Acknowledges w r)
  pub watch_output : (w : Watch) → Given (λ r. watch.Shows w r)
  pub watch_run : (w : Watch) (samples : List ℤ) (high hysteresis : ℤ) → Given (λ r. watch.Runs w samples high hysteresis r)
  -- a chip's state; a refused call alters no byte and no fact
  pub sample_channels : (old : List ℕ) (w : Watch) (steps : ℤ) (words : List ℕ) (r : Result Watch Refused) (new : List ℕ) → channels.SamplesChannels old w steps words r new
      → Answered (channels.channel_checks old steps) w (watch.tells_sampled r) × Kept (watch.tells_sampled r).0 old new
  pub read : (chip : ℕ) (old : List ℕ) (address : ℕ) (w : Watch) (r : Result (ℕ × Watch) Refused) (new : List ℕ) → states.ReadsByte chip old address w r new
      → Answered (images.image_checks chip old) (0, w) (states.tells_byte r) × Kept (states.tells_byte r).0 old new
  pub reset_chip : (chip : ℕ) (old : List ℕ) (w : Watch) (r : Result Watch Refused) (new : List ℕ) → states.ResetsChip chip old w r new
      → Answered (images.image_checks chip old) w (states.tells_reset r) × Kept (states.tells_reset r).0 old new
  -- plans
  pub count_of : (points : ℕ) → Given (λ r. curves.CountsPoints points r)
  pub speed_of : (shape : Shape) (plan : Plan) (t : ℕ) → Given (λ r. curves.Asks shape plan t r)
  pub temperatures_in_order : (shape : Shape) (plan : Plan) → Given (λ r. curves.OrdersTemperatures shape plan r)
  pub speeds_in_order : (shape : Shape) (plan : Plan) → Given (λ r. curves.OrdersSpeeds shape plan r)
  pub full_of : (shape : Shape) → Given (λ r. curves.Raises shape r)
  pub plan_of : (leading : Bool) (shape : Shape) (chip table points : ℕ) (bytes : List ℕ)
      → Given (λ plan. bodies.Decodes leading shape chip table points bytes plan)
  pub body_of : (leading : Bool) (shape : Shape) (plan : Plan) → Given (λ bytes. bodies.EncodesBody leading shape plan bytes)
  pub accept : (plan : Plan) (r : Result Chip Refusal) → plans.Accepts plan r → Answered (plans.plan_checks plan) 0 (images.tells_admitted r)
  pub judge : (plan : Plan) (r : Result ⊤ Refusal) → plans.Judges plan r → Answered (plans.plan_checks plan) tt (verdict r)
  pub asked_of_plan : (plan : Plan) (t : ℕ) (r : Result ℕ Refusal) → plans.AsksPlan plan t r → Answered (plans.ask_plan_checks plan) 0 (plans.tells_asked r)
  pub asked_of_image : (chip table : ℕ) (image : List ℕ) (t : ℕ) (r : Result ℕ Refusal) → plans.AsksImage chip table image t r
      → Answered (plans.ask_image_checks chip table image) 0 (plans.tells_asked r)
  -- records, scripts, plays and texts
  pub plan_from : (chip table : ℕ) (body : List ℕ) (r : Found) → records.TakesBody chip table body r
      → Answered (records.body_checks chip table body) (0, no_plan) (tells_found r)
  pub read_record : (bytes : List ℕ) (r : Found) → records.ReadsRecord bytes r → Answered (records.record_checks bytes) (0, no_plan) (tells_found r)
  pub write_record : (plan : Plan) (old : List ℕ) (r : Result ℕ Refusal) (new : List ℕ) → records.WritesRecord plan old r new
      → Answered (records.write_checks plan old) 0 (tells_amount r) × Kept (tells_amount r).0 old new
  pub script : (plan : Plan) (old : List ℕ) (r : Result ℕ Refusal) (new : List ℕ) → scripts.Scripts plan old r new
      → Answered (scripts.script_checks plan old) 0 (tells_amount r) × Kept (tells_amount r).0 old new
  pub make : (chip : Chip) (plan : Plan) (count : ℕ) (old : List ℕ)
      → Given (λ (made : ℕ × List ℕ). scripts.Makes chip plan count old made.0 made.1)
  pub play : (plan : Plan) (old : List ℕ) (count : ℕ) (r : Result ℕ Refusal) (new : List ℕ) → plays.Plays plan old count r new
      → Answered (plays.play_checks plan old) 0 (tells_amount r) × Kept (tells_amount r).0 old new
  pub translate : (input old : List ℕ) (r : Result ℕ Refusal) (new : List ℕ) → translation.Translates input old r new
      → Answered (room_checks (length (text_of input)) old) 0 (tells_amount r) × Kept (tells_amount r).0 old new
  -- the C boundary
  pub yk_write : (chip : ℕ) (old : List ℕ) (address byte r : ℕ) (new : List ℕ) → YkWrite chip old address byte r new
      → Answered (images.image_checks chip old) 0 (unpacked r) × Kept (unpacked r).0 old new
  pub yk_read : (chip : ℕ) (old : List ℕ) (address behaviour facts r : ℕ) (new : List ℕ) → YkRead chip old address behaviour facts r new
      → Answered (images.image_checks chip old) (with_byte (0, watch_of behaviour facts)) (unpacked r) × Kept (unpacked r).0 old new
  pub yk_reset : (chip : ℕ) (old : List ℕ) (behaviour facts r : ℕ) (new : List ℕ) → YkReset chip old behaviour facts r new
      → Answered (images.image_checks chip old) (facts_of (watch_of behaviour facts)) (unpacked r) × Kept (unpacked r).0 old new
  pub yk_sample_image : (old : List ℕ) (behaviour facts : ℕ) (steps : ℤ) (words : List ℕ) (r : ℕ) (new : List ℕ)
      → YkSampleImage old behaviour facts steps words r new
      → Answered (channels.channel_checks old steps) (facts_of (watch_of behaviour facts)) (unpacked r) × Kept (unpacked r).0 old new
  pub yk_identity : (chip : ℕ) (image : List ℕ) (r : ℕ) → YkIdentity chip image r → Answered (identity_checks chip image) 0 (unpacked r)
  pub yk_steps : (width high low r : ℕ) → YkSteps width high low r → Answered (readings.steps_checks width) 0 (unpacked r)
  pub yk_bytes : (width : ℕ) (steps : ℤ) (r : ℕ) → YkBytes width steps r → Answered (readings.bytes_checks width steps) 0 (unpacked r)
  pub yk_microvolts : (word r : ℕ) → YkMicrovolts word r → Answered [] 0 (unpacked r)
  pub yk_right_steps : (high low r : ℕ) → YkRightSteps high low r → Answered [] 0 (unpacked r)
  pub yk_right_bytes : (steps : ℤ) (r : ℕ) → YkRightBytes steps r → Answered (right.right_checks steps) 0 (unpacked r)
  pub yk_input_microvolts : (input high low r : ℕ) → YkInputMicrovolts input high low r → Answered [] 0 (unpacked r)
  pub yk_sample : (behaviour facts : ℕ) (steps high hysteresis : ℤ) (r : ℕ) → YkSample behaviour facts steps high hysteresis r
      → Answered (watch.sample_checks steps) (facts_of (watch_of behaviour facts)) (unpacked r)
  pub yk_acknowledge : (behaviour facts r : ℕ) → YkAcknowledge behaviour facts r → Answered [] 0 (unpacked r)
  pub yk_run : (behaviour facts : ℕ) (samples : List ℤ) (high hysteresis : ℤ) (r : ℕ) → YkRun behaviour facts samples high hysteresis r
      → Answered [] 0 (unpacked r)
  pub yk_read_record : (bytes : List ℕ) (r : ℕ) → YkReadRecord bytes r → Answered (records.record_checks bytes) 0 (unpacked r)
  pub yk_write_record : (chip table : ℕ) (body old : List ℕ) (r : ℕ) (new : List ℕ) → YkWriteRecord chip table body old r new
      → Answered (write_body_checks chip table body old) 0 (unpacked r) × Kept (unpacked r).0 old new
  pub yk_asked_of_plan : (chip table : ℕ) (body : List ℕ) (t r : ℕ) → YkAskedOfPlan chip table body t r
      → Answered (records.body_checks chip table body) 0 (unpacked r)
  pub yk_asked_of_image : (chip table : ℕ) (image : List ℕ) (t r : ℕ) → YkAskedOfImage chip table image t r
      → Answered (plans.ask_image_checks chip table image) 0 (unpacked r)
  pub yk_script : (chip table : ℕ) (body old : List ℕ) (r : ℕ) (new : List ℕ) → YkScript chip table body old r new
      → Answered (script_body_checks chip table body old) 0 (unpacked r) × Kept (unpacked r).0 old new
  pub yk_play : (chip table : ℕ) (body old : List ℕ) (count r : ℕ) (new : List ℕ) → YkPlay chip table body old count r new
      → Answered (play_body_checks chip table body old) 0 (unpacked r) × Kept (unpacked r).0 old new
  pub yk_translate : (input old : List ℕ) (r : ℕ) (new : List ℕ) → YkTranslate input old r new
      → Answered (room_checks (length (text_of input)) old) 0 (unpacked r) × Kept (unpacked r).0 old new

pub record Demand2 : Type 0 where
  -- "Temperatures go from bytes to steps and back again, ignored bits aside": the bytes of n steps are counted as n ..
  pub steps_and_back : (width high low : ℕ) (n : ℤ) (r : Result ℤ Refusal) → readings.GivesBytes width n (Ok (high, low)) → readings.CountsSteps width high low r → r ≡ Ok n
  -- .. and bytes that are counted as n are, but for the ignored bits, the bytes of n steps
  pub bytes_and_back : (width high low : ℕ) (n : ℤ) (r : Result (ℕ × ℕ) Refusal) → high < 256 → low < 256 → readings.CountsSteps width high low (Ok n) → readings.GivesBytes width n r
      → r ≡ Ok (cleared width high low)
  -- the same of chip 4, whose ignored bits are all but the low three
  pub right_steps_and_back : (high low : ℕ) (m n : ℤ) → right.GivesRight n (Ok (high, low)) → right.CountsRight high low m → m ≡ n
  pub right_bytes_and_back : (high low : ℕ) (n : ℤ) (r : Result (ℕ × ℕ) Refusal) → high < 256 → right.CountsRight high low n → right.GivesRight n r → r ≡ Ok (high, low % 8)
  -- "plan records go to plans and back": the plan of a record has that record, where there is room for it ..
  pub record_and_back : (bytes : List ℕ) (n : ℕ) (found : Found) (old : List ℕ) (r : Result ℕ Refusal) (new : List ℕ) → ((k : ℕ) → get_or bytes k 0 < 256)
      → records.ReadsRecord bytes found → found.answer ≡ Ok n → records.WritesRecord found.plan old r new → n ≤ length old
      → (r ≡ Ok n) × (new ≡ take n bytes ++ drop n old)
  -- .. and the record of a plan has that plan, without the other chip's values
  pub plan_and_back : (plan : Plan) (old : List ℕ) (n : ℕ) (new : List ℕ) (found : Found) → Sized plan
      → records.WritesRecord plan old (Ok n) new → records.ReadsRecord new found → (found.answer ≡ Ok n) × (found.plan ≡ own plan)
  -- "A chip is accepted only if every identity bit agrees."
  pub every_bit : (number : ℕ) (chip : Chip) (image : List ℕ) → chip_of number ≡ Some chip → Confirms number image (Ok tt) → confirmed chip image ≡ true
