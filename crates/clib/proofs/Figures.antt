-- What a caller in C gets, as one list under one claim: calls, and the number that include/yerkhulbaz.h gives for each, the refusal in its low byte and
-- the value above it. A call's contract leaves one answer, which is computed.
-- Assumes nothing.
use Prim.Native.Nat.{ℕ, ◌+◌, ◌*◌}
use mathlib.Core.Path.{◌≡◌, refl, ap, ap₂, ◌∙◌}
use mathlib.Core.Bool.{Bool, So, true, cond, ◌&&◌, and-eq-true_iff}
use mathlib.Core.List.{List, [], ◌∷◌, ◌++◌}
use borrow.Author.Tests.{eqb-true}
use lib.Dec.{eqb}
use lib.IntN.{ℤ, pos, neg_ℤ}
use lib.ListN.{length, replicate}
use Rattle.refusal.specs.Checks.{first, told, told_or, room_checks}
use Rattle.pages.specs.Cards.{sheet_of, chip_of, when_known, row_of, is_status, shape_of}
use Rattle.pages.specs.Nct7802y as nct7802y
use Rattle.pages.specs.F75373s as f75373s
use Rattle.pages.specs.Nct7904d as nct7904d
use Rattle.pages.specs.Nct7904dBank0 as bank0
use Rattle.pages.specs.Nct7904dBank1 as bank1
use Rattle.pages.specs.Nct7904dBank2 as bank2
use Rattle.pages.specs.Nct7904dBank3 as bank3
use Rattle.pages.specs.Nct7904dBank4 as bank4
use Rattle.pages.specs.Rows.{column}
use Rattle.pages.specs.W83793g as w83793g
use Rattle.pages.specs.W83793gBank0 as bankA
use Rattle.pages.specs.W83793gBank1 as bankB
use Rattle.pages.specs.W83793gBank2 as bankC
use Rattle.pages.specs.Identity.{confirmed}
use Rattle.curves.specs.declared.Plan.{Plan}
use Rattle.curves.specs.Curves as curves
use Rattle.curves.specs.Planned.{asks}
use Rattle.plans.specs.Plans.{held, points_pass, temperatures_pass, speeds_pass}
use Rattle.plans.specs.Promises.{ask_image_checks}
use Rattle.images.specs.Bytes.{selected, position, seen}
use Rattle.images.specs.Promises.{image_checks}
use Rattle.identities.specs.Promises.{identity_checks}
use Rattle.readings.specs.Readings as readings
use Rattle.readings.specs.Promises.{steps_checks, bytes_checks}
use Rattle.right_readings.specs.Inputs.{input_voltage}
use Rattle.right_readings.specs.Promises.{right_checks}
use Rattle.watch.specs.declared.Watch.{Watch}
use Rattle.watch.specs.Alarm as alarm
use Rattle.watch.specs.Promises.{sample_checks}
use Rattle.channels.specs.Channels.{sampled}
use Rattle.channels.specs.Promises.{channel_checks, leaves}
use Rattle.states.specs.States.{after_read, after_reset}
use Rattle.states.specs.Promises.{left_of}
use Rattle.records.specs.Records.{record_length, chip_number_in, plan_in, no_plan}
use Rattle.records.specs.Promises.{record_checks}
use Rattle.translation.specs.Words.{decimal}
use Rattle.translation.specs.Text.{text_of, end_line}
use Rattle.clib.specs.Facts.{watch_of, facts_of}
use Rattle.clib.specs.Packed.{packed, packs, with_byte}
use Rattle.clib.specs.Promises.{YkRead, YkReset, YkSampleImage, YkIdentity, YkSteps, YkBytes, YkMicrovolts, YkRightSteps, YkRightBytes, YkInputMicrovolts, YkSample, YkAcknowledge, YkRun, YkReadRecord, YkAskedOfImage, YkTranslate}

-- a call and what it is given; samples come with the limits 80 and 75
pub data Call : Type 0 where
  read : ℕ → List ℕ → ℕ → ℕ → ℕ → Call
  reset : ℕ → List ℕ → ℕ → ℕ → Call
  sample_image : List ℕ → ℕ → ℕ → ℤ → List ℕ → Call
  identity : ℕ → List ℕ → Call
  steps : ℕ → ℕ → ℕ → Call
  bytes : ℕ → ℤ → Call
  microvolts : ℕ → Call
  right_steps : ℕ → ℕ → Call
  right_bytes : ℤ → Call
  input_microvolts : ℕ → ℕ → ℕ → Call
  sample : ℕ → ℕ → ℤ → Call
  acknowledge : ℕ → ℕ → Call
  run : ℕ → ℕ → List ℤ → Call
  read_record : List ℕ → Call
  asked_of_image : ℕ → ℕ → List ℕ → ℕ → Call
  translate : List ℕ → List ℕ → Call

abbrev pub Promise : Call → ℕ → Type 0
Promise (read chip image address behaviour facts) r = (new : List ℕ) × YkRead chip image address behaviour facts r new
Promise (reset chip image behaviour facts) r = (new : List ℕ) × YkReset chip image behaviour facts r new
Promise (sample_image image behaviour facts n words) r = (new : List ℕ) × YkSampleImage image behaviour facts n words r new
Promise (identity chip image) r = YkIdentity chip image r
Promise (steps width high low) r = YkSteps width high low r
Promise (bytes width n) r = YkBytes width n r
Promise (microvolts word) r = YkMicrovolts word r
Promise (right_steps high low) r = YkRightSteps high low r
Promise (right_bytes n) r = YkRightBytes n r
Promise (input_microvolts input high low) r = YkInputMicrovolts input high low r
Promise (sample behaviour facts n) r = YkSample behaviour facts n (pos 80) (pos 75) r
Promise (acknowledge behaviour facts) r = YkAcknowledge behaviour facts r
Promise (run behaviour facts ns) r = YkRun behaviour facts ns (pos 80) (pos 75) r
Promise (read_record bs) r = YkReadRecord bs r
Promise (asked_of_image chip table image t) r = YkAskedOfImage chip table image t r
Promise (translate input old) r = (new : List ℕ) × YkTranslate input old r new

-- what an answer tells, as one number
abbrev of_steps : ℕ × ℤ → ℕ
of_steps t = packed t.0 (readings.as_word t.1)

abbrev of_bytes : ℕ × (ℕ × ℕ) → ℕ
of_bytes t = packed t.0 (t.1.0 * 256 + t.1.1)

abbrev of_watch : ℕ × Watch → ℕ
of_watch t = packed t.0 (facts_of t.1)

abbrev of_byte : ℕ × (ℕ × Watch) → ℕ
of_byte t = packed t.0 (with_byte t.1)

abbrev of_record : ℕ × ℕ → Plan → ℕ
of_record t plan = packed t.0 (cond (eqb t.0 0) (t.1 + 256 * plan.chip + 65536 * plan.table) 0)

-- the number that a call's contract leaves
abbrev answer : Call → ℕ
answer (read chip image address behaviour facts) =
    of_byte (told_or (0, watch_of behaviour facts) (image_checks chip image)
    (when_known (chip_of chip) (λ c. seen c address image) 0, (left_of chip (λ c. after_read c address) image (watch_of behaviour facts)).watch))
answer (reset chip image behaviour facts) =
    of_watch (told_or (watch_of behaviour facts) (image_checks chip image) (left_of chip after_reset image (watch_of behaviour facts)).watch)
answer (sample_image image behaviour facts n words) =
    of_watch (told_or (watch_of behaviour facts) (channel_checks image n) (leaves image (watch_of behaviour facts) n words).watch)
answer (identity chip image) = packed (first (identity_checks chip image)) 0
answer (steps width high low) = of_steps (told_or (pos 0) (steps_checks width) (readings.steps_at width high low))
answer (bytes width n) = of_bytes (told_or (0, 0) (bytes_checks width n) (readings.bytes_at width n))
answer (microvolts word) = packed 0 (readings.voltage word)
answer (right_steps high low) = of_steps (0, readings.steps_from 11 1 high low)
answer (right_bytes n) = of_bytes (told_or (0, 0) (right_checks n) (readings.bytes_from 11 1 n))
answer (input_microvolts input high low) = packed 0 (input_voltage input high low)
answer (sample behaviour facts n) =
    of_watch (first (sample_checks n), alarm.after (watch_of behaviour facts) (alarm.sample n (pos 80) (pos 75)))
answer (acknowledge behaviour facts) = of_watch (0, alarm.acknowledged (watch_of behaviour facts))
answer (run behaviour facts ns) = of_watch (0, alarm.run (watch_of behaviour facts) (alarm.recorded (pos 80) (pos 75) ns))
answer (read_record bs) =
    of_record (told (record_checks bs) (when_known (chip_of (chip_number_in bs)) record_length 0))
    (cond (eqb (first (record_checks bs)) 0) (plan_in bs) no_plan)
answer (asked_of_image chip table image t) =
    packs (told (ask_image_checks chip table image) (when_known (chip_of chip) (λ c. asks (shape_of c table) (held c table image) t) 0))
answer (translate input old) = packs (told (room_checks (length (text_of input)) old) (length (text_of input)))

only : (call : Call) (r : ℕ) → Promise call r → r ≡ answer call
only (read chip image address behaviour facts) r p = p.1.same ∙ ap of_byte p.1.kept.answer
only (reset chip image behaviour facts) r p = p.1.same ∙ ap of_watch p.1.kept.answer
only (sample_image image behaviour facts n words) r p = p.1.same ∙ ap of_watch p.1.kept.answer
only (identity chip image) r p = p.same ∙ ap (λ (n : ℕ). packed n 0) p.kept.answer
only (steps width high low) r p = p.same ∙ ap of_steps p.kept.answer
only (bytes width n) r p = p.same ∙ ap of_bytes p.kept.answer
only (microvolts word) r p = p.same ∙ ap (λ (n : ℕ). packed 0 n) p.kept.answer
only (right_steps high low) r p = p.same ∙ ap (λ (n : ℤ). of_steps (0, n)) p.kept.answer
only (right_bytes n) r p = p.same ∙ ap of_bytes p.kept.answer
only (input_microvolts input high low) r p = p.same ∙ ap (λ (n : ℕ). packed 0 n) p.kept.answer
only (sample behaviour facts n) r p = p.same ∙ ap of_watch p.kept.answer
only (acknowledge behaviour facts) r p = p.same ∙ ap (λ (w : Watch). of_watch (0, w)) p.kept.answer
only (run behaviour facts ns) r p = p.same ∙ ap (λ (w : Watch). of_watch (0, w)) p.kept.answer
only (read_record bs) r p = p.same ∙ ap₂ of_record p.kept.answer p.kept.plan
only (asked_of_image chip table image t) r p = p.same ∙ ap packs p.kept.answer
only (translate input old) r p = p.1.same ∙ ap packs p.1.kept.answer

-- a call, and what it answers by the header
abbrev pub Figure : Type 0
Figure = Call × ℕ

abbrev pub AllHold : List Figure → Type 0
AllHold [] = Unit {0}
AllHold (f ∷ fs) = ((r : ℕ) → Promise f.0 r → r ≡ f.1) × AllHold fs

unfoldable agree : List Figure → Bool
agree [] = true
agree (f ∷ fs) = eqb (answer f.0) f.1 && agree fs

each : (fs : List Figure) → So (agree fs) → AllHold fs
unfolding agree
each [] t = tt
each (f ∷ fs) t =
    let both = (and-eq-true_iff (eqb (answer f.0) f.1) (agree fs)).0 t in
    (λ r p. only f.0 r p ∙ eqb-true (answer f.0) f.1 both.0, each fs both.1)

-- "AN IMAGE is the 256 register bytes of one chip": any bytes, and "5Ah, 5Bh, 5Dh, 5Eh are 02h, 04h, 19h, 34h"
abbrev image : List ℕ
image = replicate 256 0x5A

abbrev image_of2 : List ℕ
image_of2 = replicate 0x5A 0 ++ (0x02 ∷ 0x04 ∷ 0x00 ∷ 0x19 ∷ 0x34 ∷ replicate 161 0)

-- bank 0 holds 11h and the others 22h
abbrev image_of4 : ℕ → List ℕ
image_of4 select = replicate 0xFF 0x11 ++ (select ∷ replicate 1024 0x22)

-- bank 0 of chip 5 holds 11h but for its identity, and the others 22h
abbrev image_of5 : ℕ → ℕ → List ℕ
image_of5 select version = select ∷ (replicate 12 0x11 ++ (0x5C ∷ 0x7B ∷ version ∷ (replicate 240 0x11 ++ replicate 512 0x22)))

-- seven temperatures, critical, seven duties
abbrev body_of5 : List ℕ
body_of5 = 0x1E ∷ 0x23 ∷ 0x28 ∷ 0x2D ∷ 0x32 ∷ 0x37 ∷ 0x3C ∷ 0x50 ∷ 0x08 ∷ 0x0C ∷ 0x10 ∷ 0x18 ∷ 0x20 ∷ 0x30 ∷ 0x38 ∷ []

unfoldable pub figures : List Figure
figures =
    -- "YK_DEFAULT = 0, YK_ONE_TIME = 1, YK_COMPARATOR = 2", "Any other number counts as comparator": a new watch at 81 degrees, then a hot one that was
    -- acknowledged, at 78
    (sample 0 0 (pos 1296), 0x0700)
    ∷ (sample 1 0 (pos 1296), 0x0700)
    ∷ (sample 2 0 (pos 1296), 0x0500)
    ∷ (sample 255 0 (pos 1296), 0x0500)
    ∷ (sample 0 1 (pos 1248), 0x0700)
    ∷ (sample 1 1 (pos 1248), 0x0100)
    ∷ (sample 2 1 (pos 1248), 0x0500)
    ∷ (sample 255 1 (pos 1248), 0x0500)
    -- a new one at 78
    ∷ (sample 0 0 (pos 1248), 0x0000)
    -- "In facts bit 0 is hot, bit 1 is pending, other bits are ignored"; "A refused sample carries the facts as they were": 12, and above it
    -- "hot + 2 * pending + 4 * output"
    ∷ (sample 0 0x00 (pos 2048), 0x000C)
    ∷ (sample 0 0x01 (pos 2048), 0x010C)
    ∷ (sample 0 0x02 (pos 2048), 0x060C)
    ∷ (sample 0 0x03 (pos 2048), 0x070C)
    ∷ (sample 1 0x00 (pos 2048), 0x000C)
    ∷ (sample 1 0x01 (pos 2048), 0x010C)
    ∷ (sample 1 0x02 (pos 2048), 0x060C)
    ∷ (sample 1 0x03 (pos 2048), 0x070C)
    ∷ (sample 2 0x00 (pos 2048), 0x000C)
    ∷ (sample 2 0x01 (pos 2048), 0x050C)
    ∷ (sample 2 0x02 (pos 2048), 0x020C)
    ∷ (sample 2 0x03 (pos 2048), 0x070C)
    ∷ (sample 0 0xFC (pos 2048), 0x000C)
    ∷ (sample 0 0xFD (pos 2048), 0x010C)
    ∷ (sample 0 0xFE (pos 2048), 0x060C)
    ∷ (sample 0 0xFF (pos 2048), 0x070C)
    -- "Turns pending off and keeps hot."
    ∷ (acknowledge 0 0x03, 0x0100)
    ∷ (acknowledge 1 0xFF, 0x0100)
    ∷ (acknowledge 2 0x03, 0x0500)
    ∷ (acknowledge 0 0xFC, 0x0000)
    -- samples in turn, from the facts that are given; a refused one changes neither fact, and the call is accepted
    ∷ (run 0 0 (pos 1296 ∷ pos 2048 ∷ pos 1199 ∷ []), 0x0600)
    ∷ (run 0 0 (pos 1199 ∷ pos 1248 ∷ []), 0x0000)
    ∷ (run 0 1 (pos 1248 ∷ []), 0x0700)
    ∷ (run 1 1 (pos 1248 ∷ []), 0x0100)
    ∷ (run 2 1 (pos 1248 ∷ []), 0x0500)
    ∷ (run 255 0xFE [], 0x0200)
    -- steps as a 16-bit two's complement number: 2000, -1 and -880 at width 12, -195 at 11; 10 is no width
    ∷ (steps 12 0x7D 0x00, 0x07D000)
    ∷ (steps 12 0xFF 0xF0, 0xFFFF00)
    ∷ (steps 12 0xC9 0x00, 0xFC9000)
    ∷ (steps 11 0xE7 0xA0, 0xFF3D00)
    ∷ (steps 10 0xE7 0xA0, 0x00000B)
    -- "high * 256 + low"; 256 doesn't fit width 9
    ∷ (bytes 11 (neg_ℤ (pos 195)), 0xE7A000)
    ∷ (bytes 9 (pos 256), 0x00000C)
    -- "the microvolts, 0 to 2,557,500"
    ∷ (microvolts 0x0000, 0)
    ∷ (microvolts 0xFFFF, 256 * 2557500)
    -- right-aligned: -206 steps whatever the ignored bits are, both ends and -1; 1,024 does not fit
    ∷ (right_steps 0xE6 0x02, 0xFF3200)
    ∷ (right_steps 0xE6 0xFA, 0xFF3200)
    ∷ (right_steps 0x80 0x00, 0xFC0000)
    ∷ (right_steps 0x7F 0x07, 0x03FF00)
    ∷ (right_steps 0xFF 0xFF, 0xFFFF00)
    ∷ (right_bytes (neg_ℤ (pos 206)), 0xE60200)
    ∷ (right_bytes (neg_ℤ (pos 1024)), 0x800000)
    ∷ (right_bytes (pos 1023), 0x7F0700)
    ∷ (right_bytes (pos 1024), 0x00000C)
    ∷ (right_bytes (neg_ℤ (pos 1025)), 0x00000C)
    -- 206 counts of VSEN1 and of 3VDD; LTD at 62h is no voltage
    ∷ (input_microvolts 0x40 0x19 0x06, 256 * 412000)
    ∷ (input_microvolts 0x5C 0x19 0x06, 256 * 1236000)
    ∷ (input_microvolts 0x62 0x19 0x06, 0)
    -- "the byte"; 6 is no chip; chip 4's image is longer; "Chip 3 is never confirmed"
    ∷ (read 1 image 0 0 0, 0x5A0000)
    ∷ (read 6 image 0 0 0, 0x000003)
    ∷ (read 4 image 0 0 0, 0x000008)
    -- "bits 15 to 8 are the byte", below them hot, pending and the output. A read of 01h and 02h of chip 3 is the acknowledge; no other read is one, and a
    -- refused read carries the facts as they were
    ∷ (read 3 image 0x01 0 3, 0x5A0100)
    ∷ (read 3 image 0x02 1 0xFF, 0x5A0100)
    ∷ (read 3 image 0x02 2 3, 0x5A0500)
    ∷ (read 3 image 0x00 0 3, 0x5A0700)
    ∷ (read 3 image 0x03 0 3, 0x5A0700)
    ∷ (read 1 image 0x01 0 3, 0x5A0700)
    ∷ (read 3 [] 0x01 0 3, 0x000708)
    -- a reset of chip 3 turns both facts off; another chip has none of its own
    ∷ (reset 3 image 0 3, 0x0000)
    ∷ (reset 3 image 2 3, 0x0000)
    ∷ (reset 1 image 0 3, 0x0700)
    ∷ (reset 6 image 0 3, 0x0703)
    ∷ (reset 4 image 2 1, 0x0508)
    -- a sample above 38h, 90 degrees here, and one that is exactly there; with 08h FFh the temperature is disabled; 8, then 12
    ∷ (sample_image image 0 0 (pos 1441) (replicate 7 0), 0x0700)
    ∷ (sample_image image 0 0 (pos 1440) (replicate 7 0), 0x0000)
    ∷ (sample_image (replicate 256 0xFF) 0 1 (pos 2047) (replicate 7 0), 0x0100)
    ∷ (sample_image (replicate 255 0xFF) 0 3 (pos 2048) (replicate 7 0), 0x0708)
    ∷ (sample_image (replicate 256 0xFF) 0 3 (pos 2048) (replicate 7 0), 0x070C)
    -- bits 2 to 0 of FFh select bank 3, and 7Ah and FFh are seen there; with code 6 only they answer
    ∷ (read 4 (image_of4 0x83) 0x20 0 0, 0x220000)
    ∷ (read 4 (image_of4 0x83) 0x7A 0 0, 0x110000)
    ∷ (read 4 (image_of4 0x83) 0xFF 0 0, 0x830000)
    ∷ (read 4 (image_of4 0x86) 0x20 0 0, 0x000000)
    ∷ (read 4 (image_of4 0x86) 0x7A 0 0, 0x110000)
    -- bits 2 to 0 of 00h select bank 2; the vendor byte is the high one in every bank, whatever bit 7 of 00h holds; with code 5 only such registers answer
    ∷ (read 5 (image_of5 0x82 0x11) 0x20 0 0, 0x220000)
    ∷ (read 5 (image_of5 0x02 0x11) 0x0D 0 0, 0x5C0000)
    ∷ (read 5 (image_of5 0x85 0x11) 0x20 0 0, 0x000000)
    ∷ (read 5 (image_of5 0x85 0x11) 0x0E 0 0, 0x7B0000)
    ∷ (identity 2 image_of2, 0x0000)
    ∷ (identity 3 image, 0x000A)
    -- "0Fh is 11h or 12h"
    ∷ (identity 5 (image_of5 0x80 0x11), 0x0000)
    ∷ (identity 5 (image_of5 0x02 0x12), 0x0000)
    ∷ (identity 5 (image_of5 0x80 0x13), 0x000A)
    ∷ (identity 5 (image_of5 0x80 0x10), 0x000A)
    -- "used + 256 * chip + 65536 * table": the paper's record, one of chip 2, and one without its mark
    ∷ (read_record (0x43 ∷ 0x50 ∷ 1 ∷ 3 ∷ 0x1E ∷ 0x28 ∷ 0x32 ∷ 0x37 ∷ 0x3C ∷ 0x8C ∷ 0xAA ∷ 0xC8 ∷ 0xE6 ∷ []), 0x03010D00)
    ∷ (read_record (0x43 ∷ 0x50 ∷ 2 ∷ 1 ∷ 0x3C ∷ 0x32 ∷ 0x28 ∷ 0x1E ∷ 1 ∷ 0xFF ∷ 2 ∷ 0 ∷ 3 ∷ 0 ∷ 8 ∷ 0 ∷ 0xFF ∷ 0xFF ∷ []), 0x01021200)
    ∷ (read_record (0x50 ∷ 0x43 ∷ 2 ∷ 1 ∷ []), 0x00000002)
    -- of chip 4, whose body has critical first: in order, and with the two exchanged
    ∷ (read_record (0x43 ∷ 0x50 ∷ 4 ∷ 10 ∷ 0x7F ∷ 0xEC ∷ 0x00 ∷ 0x14 ∷ 0x32 ∷ 0x00 ∷ 0x40 ∷ 0x80 ∷ 0xFF ∷ []), 0x0A040D00)
    ∷ (read_record (0x43 ∷ 0x50 ∷ 4 ∷ 10 ∷ 0xEC ∷ 0x00 ∷ 0x14 ∷ 0x32 ∷ 0x7F ∷ 0x00 ∷ 0x40 ∷ 0x80 ∷ 0xFF ∷ []), 0x00000006)
    -- of chip 5, with its point count; in the old form, with one point more, with none, and with an old chip's number
    ∷ (read_record (0x43 ∷ 0x51 ∷ 5 ∷ 1 ∷ 7 ∷ body_of5), 0x01051400)
    ∷ (read_record (0x43 ∷ 0x50 ∷ 5 ∷ 1 ∷ 7 ∷ body_of5), 0x00000010)
    ∷ (read_record (0x43 ∷ 0x51 ∷ 5 ∷ 1 ∷ 8 ∷ body_of5), 0x00000010)
    ∷ (read_record (0x43 ∷ 0x51 ∷ 5 ∷ 1 ∷ []), 0x00000005)
    ∷ (read_record (0x43 ∷ 0x51 ∷ 1 ∷ 1 ∷ body_of5), 0x00000010)
    ∷ (read_record (0x43 ∷ 0x50 ∷ 5 ∷ 7 ∷ []), 0x00000004)
    -- "the duty or count"; "chip 3 has no fan table"
    ∷ (asked_of_image 1 1 image 0x5A, 0xFF00)
    ∷ (asked_of_image 2 1 image 0x5B, 0x5A5A00)
    ∷ (asked_of_image 3 1 image 0x5A, 0x0004)
    -- critical of chip 5 is 11h in bank 0, T1 and FL1 are 22h in bank 2
    ∷ (asked_of_image 5 6 (image_of5 0x80 0x11) 0x10, 0x2200)
    ∷ (asked_of_image 5 6 (image_of5 0x80 0x11) 0x11, 0x3F00)
    -- "the length of the text": `end 0` and a line feed
    ∷ (translate [] (replicate 6 0), 0x0600)
    ∷ (translate [] (replicate 5 0), 0x0009)
    ∷ []

pub figures_hold : AllHold figures
unfolding sheet_of row_of is_status column agree figures facts_of position selected after_read sampled points_pass temperatures_pass speeds_pass w83793g.card bankA.bank bankB.bank bankC.bank nct7802y.card f75373s.card nct7904d.card bank0.bank bank1.bank bank2.bank bank3.bank bank4.bank confirmed curves.words curves.halves curves.slope curves.below curves.step_rule text_of end_line decimal
figures_hold = each figures refl
