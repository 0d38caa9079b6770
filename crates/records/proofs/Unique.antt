-- No second answer of the reader or of the writer meets its contract, no other plan and no other bytes.
-- Assumes nothing.
use Rattle.std.specs.Prelude.{Result}
use Rattle.refusal.specs.declared.Refusal.{Refusal}
use Prim.Native.Nat.{ℕ}
use mathlib.Core.Path.{◌≡◌, sym, ◌∙◌}
use mathlib.Core.List.{List}
use Rattle.refusal.proofs.Answers.{tells_amount_injective}
use Rattle.refusal.specs.Answers.{tells_amount}
use Rattle.refusal.specs.Checks.{Check}
use Rattle.curves.specs.declared.Plan.{Plan}
use Rattle.records.specs.declared.Found.{Found}
use Rattle.records.specs.Promises.{TakesBody, ReadsRecord, WritesRecordBy}

-- what is found is found once
found_once : {t : ℕ × ℕ} {p : Plan} {r s : Found} → tells_amount r.answer ≡ t → r.plan ≡ p → tells_amount s.answer ≡ t → s.plan ≡ p → r ≡ s
found_once {r = r} {s = s} a p b q =
    λ i. record { answer = tells_amount_injective r.answer s.answer (a ∙ sym b) i; plan = (p ∙ sym q) i }

pub plans_unique : {chip table : ℕ} {bytes : List ℕ} {r s : Found} → TakesBody chip table bytes r → TakesBody chip table bytes s → r ≡ s
plans_unique p q = found_once p.answer p.plan q.answer q.plan

pub reads_unique : {bytes : List ℕ} {r s : Found} → ReadsRecord bytes r → ReadsRecord bytes s → r ≡ s
reads_unique p q = found_once p.answer p.plan q.answer q.plan

pub writes_unique : {checks : List Check} {plan : Plan} {old : List ℕ} {r s : (Result ℕ Refusal)} {l m : List ℕ}
    → WritesRecordBy checks plan old r l → WritesRecordBy checks plan old s m → (r ≡ s) × (l ≡ m)
writes_unique {r = r} {s = s} p q = (tells_amount_injective r s (p.answer ∙ sym q.answer), p.bytes ∙ sym q.bytes)
