-- The one number that a call of the boundary answers: what the library's own answer tells, packed.
-- Assumes nothing.
use Rattle.std.specs.Prelude.{ℕ, ◌+◌, ◌*◌, ◌≡◌, cond, eqb, Result, Ok, Err, ⊤, ℤ}
use Rattle.refusal.specs.declared.Refusal.{Refusal}
use Rattle.refusal.specs.Refusals.{number_of}
use Rattle.refusal.specs.Answers.{tells, tells_amount}
use Rattle.readings.specs.Readings.{as_word}
use Rattle.readings.specs.Promises as readings
use Rattle.watch.specs.declared.Watch.{Watch}
use Rattle.watch.specs.declared.Refused.{Refused}
use Rattle.watch.specs.Promises as watch
use Rattle.states.specs.Promises as states
use Rattle.plans.specs.Promises as plans
use Rattle.records.specs.declared.Found.{Found}
use Rattle.clib.specs.Facts.{facts_of}

-- the refusal number in the low byte, the value above it
abbrev pub packed : ℕ → ℕ → ℕ
packed refusal value = refusal + 256 * value

-- what an answer tells, packed: the paper's number and a value
abbrev pub packs : ℕ × ℕ → ℕ
packs t = packed t.0 t.1

abbrev pub packs_outcome : Result ⊤ Refusal → ℕ
packs_outcome a = packed (tells a) 0

abbrev pub packs_amount : Result ℕ Refusal → ℕ
packs_amount a = packs (tells_amount a)

abbrev pub packs_asked : Result ℕ Refusal → ℕ
packs_asked a = packs (plans.tells_asked a)

-- two bytes, "high byte first"
abbrev pub packs_bytes : Result (ℕ × ℕ) Refusal → ℕ
packs_bytes a = packed (readings.tells_bytes a).0 ((readings.tells_bytes a).1.0 * 256 + (readings.tells_bytes a).1.1)

-- a count of steps, as a 16-bit two's complement number
abbrev pub packs_steps : Result ℤ Refusal → ℕ
packs_steps a = packed (readings.tells_steps a).0 (as_word (readings.tells_steps a).1)

abbrev pub packs_watch : Watch → ℕ
packs_watch w = packed 0 (facts_of w)

-- what a call that is refused with a watch crosses as: "a watch comes back unchanged"
abbrev pub packs_facts : Result ℕ Refused → ℕ
packs_facts (Ok value) = packed 0 value
packs_facts (Err refused) = packed (number_of refused.refusal) (facts_of refused.watch)

abbrev pub packs_sampled : Result Watch Refused → ℕ
packs_sampled a = packed (watch.tells_sampled a).0 (facts_of (watch.tells_sampled a).1)

-- the facts, and above them the byte
abbrev pub with_byte : ℕ × Watch → ℕ
with_byte b = facts_of b.1 + 256 * b.0

abbrev pub packs_byte : Result (ℕ × Watch) Refused → ℕ
packs_byte a = packed (states.tells_byte a).0 (with_byte (states.tells_byte a).1)

abbrev pub packs_reset : Result Watch Refused → ℕ
packs_reset a = packed (states.tells_reset a).0 (facts_of (states.tells_reset a).1)

-- the bytes used, with the chip and the table above them where the record is read
abbrev pub packs_used : Result ℕ Refusal → ℕ → ℕ → ℕ
packs_used a chip table =
    packed (tells_amount a).0 (cond (eqb (tells_amount a).0 0) ((tells_amount a).1 + 256 * chip + 65536 * table) 0)

abbrev pub packs_found : Found → ℕ
packs_found f = packs_used f.answer f.plan.chip f.plan.table

-- A number is packed of an answer that keeps the library's own promise.
pub record Answers {A : Type 0} (pack : A → ℕ) (Promise : A → Type 0) (r : ℕ) : Type 0 where
  pub answer : A
  pub kept : Promise answer
  pub same : r ≡ pack answer
