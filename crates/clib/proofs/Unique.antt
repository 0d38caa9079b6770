-- No second answer meets a contract of the boundary, and no other bytes: the library's own answer is the only one, and what is packed tells its
-- refusal and its value.
-- Assumes nothing.
use Prim.Native.Nat.{ℕ, ◌<◌}
use native.Mathlib.Omega.{arith}
use mathlib.Core.Path.{◌≡◌, sym, ap, ◌∙◌}
use mathlib.Core.List.{List}
use lib.IntN.{ℤ}
use Rattle.images.proofs.Unique as images
use Rattle.identities.proofs.Unique as identities
use Rattle.readings.proofs.Unique as readings
use Rattle.right_readings.proofs.Unique as right
use Rattle.watch.proofs.Unique as watch
use Rattle.channels.proofs.Unique as channels
use Rattle.states.proofs.Unique as states
use Rattle.plans.proofs.Unique as plans
use Rattle.records.proofs.Unique as records
use Rattle.scripts.proofs.Unique as scripts
use Rattle.plays.proofs.Unique as plays
use Rattle.translation.proofs.Unique as translation
use Rattle.clib.specs.Packed.{packed, Answers}
use Rattle.clib.specs.Promises.{YkWrite, YkRead, YkReset, YkSampleImage, YkIdentity, YkSteps, YkBytes, YkMicrovolts, YkRightSteps, YkRightBytes, YkInputMicrovolts, YkSample, YkAcknowledge, YkReadRecord, YkWriteRecord, YkAskedOfPlan, YkAskedOfImage, YkScript, YkPlay, YkTranslate, YkRun}

pub packed_refusal : (a b v w : ℕ) → a < 256 → b < 256 → packed a v ≡ packed b w → a ≡ b
packed_refusal a b v w h k e = omega arith

pub packed_value : (a b v w : ℕ) → a < 256 → b < 256 → packed a v ≡ packed b w → v ≡ w
packed_value a b v w h k e = omega arith

pub packed_injective : (a b v w : ℕ) → a < 256 → b < 256 → packed a v ≡ packed b w → (a ≡ b) × (v ≡ w)
packed_injective a b v w h k e = (packed_refusal a b v w h k e, packed_value a b v w h k e)

-- where two promises have one answer, what is packed of it is one number
answers_unique : {A : Type 0} {pack : A → ℕ} {P Q : A → Type 0} {r s : ℕ} → ((a b : A) → P a → Q b → a ≡ b)
    → Answers pack P r → Answers pack Q s → r ≡ s
answers_unique {pack = pack} one p q = p.same ∙ ap pack (one p.answer q.answer p.kept q.kept) ∙ sym q.same

pub write_unique : {chip : ℕ} {old : List ℕ} {address byte : ℕ} {r s : ℕ} {l m : List ℕ} → YkWrite chip old address byte r l → YkWrite chip old address byte s m → (r ≡ s) × (l ≡ m)
write_unique p q = (answers_unique (λ a b k l. (images.writes_unique k l).0) p q, (images.writes_unique p.kept q.kept).1)

pub read_unique : (chip : ℕ) (old : List ℕ) (address behaviour facts : ℕ) {r s : ℕ} {l m : List ℕ}
    → YkRead chip old address behaviour facts r l → YkRead chip old address behaviour facts s m → (r ≡ s) × (l ≡ m)
read_unique chip old address behaviour facts p q =
    (answers_unique (λ a b k l. (states.reads_unique k l).0) p q, (states.reads_unique p.kept q.kept).1)

pub reset_unique : (chip : ℕ) (old : List ℕ) (behaviour facts : ℕ) {r s : ℕ} {l m : List ℕ}
    → YkReset chip old behaviour facts r l → YkReset chip old behaviour facts s m → (r ≡ s) × (l ≡ m)
reset_unique chip old behaviour facts p q =
    (answers_unique (λ a b k l. (states.resets_chip_unique k l).0) p q, (states.resets_chip_unique p.kept q.kept).1)

pub sample_image_unique : (old : List ℕ) (behaviour facts : ℕ) (steps : ℤ) (words : List ℕ) {r s : ℕ} {l m : List ℕ}
    → YkSampleImage old behaviour facts steps words r l → YkSampleImage old behaviour facts steps words s m → (r ≡ s) × (l ≡ m)
sample_image_unique old behaviour facts steps words p q =
    (answers_unique (λ a b k l. (channels.samples_channels_unique k l).0) p q, (channels.samples_channels_unique p.kept q.kept).1)

pub identity_unique : {chip : ℕ} {image : List ℕ} {r s : ℕ} → YkIdentity chip image r → YkIdentity chip image s → r ≡ s
identity_unique p q = answers_unique (λ a b k l. identities.confirms_unique k l) p q

pub steps_unique : {width high low : ℕ} {r s : ℕ} → YkSteps width high low r → YkSteps width high low s → r ≡ s
steps_unique p q = answers_unique (λ a b k l. readings.counts_unique k l) p q

pub bytes_unique : {width : ℕ} {steps : ℤ} {r s : ℕ} → YkBytes width steps r → YkBytes width steps s → r ≡ s
bytes_unique p q = answers_unique (λ a b k l. readings.writes_unique k l) p q

pub microvolts_unique : {word : ℕ} {r s : ℕ} → YkMicrovolts word r → YkMicrovolts word s → r ≡ s
microvolts_unique p q = answers_unique (λ a b k l. readings.measures_unique k l) p q

pub right_steps_unique : {high low : ℕ} {r s : ℕ} → YkRightSteps high low r → YkRightSteps high low s → r ≡ s
right_steps_unique p q = answers_unique (λ a b k l. right.counts_right_unique k l) p q

pub right_bytes_unique : {steps : ℤ} {r s : ℕ} → YkRightBytes steps r → YkRightBytes steps s → r ≡ s
right_bytes_unique p q = answers_unique (λ a b k l. right.writes_right_unique k l) p q

pub input_microvolts_unique : {input high low : ℕ} {r s : ℕ} → YkInputMicrovolts input high low r → YkInputMicrovolts input high low s → r ≡ s
input_microvolts_unique p q = answers_unique (λ a b k l. right.measures_input_unique k l) p q

pub sample_unique : (behaviour facts : ℕ) (steps high hysteresis : ℤ) {r s : ℕ} → YkSample behaviour facts steps high hysteresis r → YkSample behaviour facts steps high hysteresis s → r ≡ s
sample_unique behaviour facts steps high hysteresis p q = answers_unique (λ a b k l. watch.samples_unique k l) p q

pub acknowledge_unique : (behaviour facts : ℕ) {r s : ℕ} → YkAcknowledge behaviour facts r → YkAcknowledge behaviour facts s → r ≡ s
acknowledge_unique behaviour facts p q = answers_unique (λ a b k l. watch.acknowledges_unique k l) p q

pub read_record_unique : {bytes : List ℕ} {r s : ℕ} → YkReadRecord bytes r → YkReadRecord bytes s → r ≡ s
read_record_unique p q = answers_unique (λ a b k l. records.reads_unique k l) p q

pub write_record_unique : (chip table : ℕ) (body old : List ℕ) {r s : ℕ} {l m : List ℕ} → YkWriteRecord chip table body old r l → YkWriteRecord chip table body old s m → (r ≡ s) × (l ≡ m)
write_record_unique chip table body old p q = (answers_unique (λ a b k l. (records.writes_unique k l).0) p q, (records.writes_unique p.kept q.kept).1)

pub asked_of_plan_unique : (chip table : ℕ) (body : List ℕ) (t : ℕ) {r s : ℕ} → YkAskedOfPlan chip table body t r → YkAskedOfPlan chip table body t s → r ≡ s
asked_of_plan_unique chip table body t p q = answers_unique (λ a b k l. plans.asks_plan_unique k l) p q

pub asked_of_image_unique : {chip table : ℕ} {image : List ℕ} {t : ℕ} {r s : ℕ} → YkAskedOfImage chip table image t r → YkAskedOfImage chip table image t s → r ≡ s
asked_of_image_unique p q = answers_unique (λ a b k l. plans.asks_image_unique k l) p q

pub script_unique : (chip table : ℕ) (body old : List ℕ) {r s : ℕ} {l m : List ℕ} → YkScript chip table body old r l → YkScript chip table body old s m → (r ≡ s) × (l ≡ m)
script_unique chip table body old p q = (answers_unique (λ a b k l. (scripts.scripts_unique k l).0) p q, (scripts.scripts_unique p.kept q.kept).1)

pub play_unique : (chip table : ℕ) (body old : List ℕ) (count : ℕ) {r s : ℕ} {l m : List ℕ} → YkPlay chip table body old count r l → YkPlay chip table body old count s m → (r ≡ s) × (l ≡ m)
play_unique chip table body old count p q = (answers_unique (λ a b k l. (plays.plays_unique k l).0) p q, (plays.plays_unique p.kept q.kept).1)

pub translate_unique : {input old : List ℕ} {r s : ℕ} {l m : List ℕ} → YkTranslate input old r l → YkTranslate input old s m → (r ≡ s) × (l ≡ m)
translate_unique p q = (answers_unique (λ a b k l. (translation.translates_unique k l).0) p q, (translation.translates_unique p.kept q.kept).1)

pub run_unique : (behaviour facts : ℕ) (samples : List ℤ) (high hysteresis : ℤ) {r s : ℕ} → YkRun behaviour facts samples high hysteresis r → YkRun behaviour facts samples high hysteresis s → r ≡ s
run_unique behaviour facts samples high hysteresis p q = answers_unique (λ a b k l. watch.runs_unique k l) p q
