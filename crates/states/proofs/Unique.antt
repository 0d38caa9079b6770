-- No second answer of a read or a reset meets its contract, and no other bytes: what an answer tells is told by no other answer.
-- Assumes nothing.
use Rattle.std.specs.Prelude.{Result, Ok, Err}
use Prim.Native.Nat.{ℕ}
use mathlib.Core.Path.{◌≡◌, sym, ap, ap₂, ◌∙◌}
use mathlib.Core.List.{List}
use Rattle.refusal.proofs.Numbers.{number_of_injective, not_accepted}
use Rattle.refusal.specs.declared.Refusal.{Refusal}
use Rattle.watch.specs.declared.Watch.{Watch}
use Rattle.watch.specs.declared.Refused.{Refused}
use Rattle.watch.proofs.Unique.{tells_injective}
use Rattle.states.specs.Promises.{tells_byte, tells_reset, ReadsByte, ResetsChip}

pub tells_byte_injective : (r s : Result (ℕ × Watch) Refused) → tells_byte r ≡ tells_byte s → r ≡ s
tells_byte_injective (Ok (b, v)) (Ok (d, w)) e = ap (λ (t : ℕ × (ℕ × Watch)). Ok t.1) e
tells_byte_injective (Ok (b, v)) (Err q) e = absurd (not_accepted q.refusal (ap (λ (t : ℕ × (ℕ × Watch)). t.0) e))
tells_byte_injective (Err p) (Ok (d, w)) e = absurd (not_accepted p.refusal (sym (ap (λ (t : ℕ × (ℕ × Watch)). t.0) e)))
tells_byte_injective (Err p) (Err q) e =
    ap₂ (λ (refusal : Refusal) (watch : Watch). Err (record { refusal = refusal; watch = watch }))
    (number_of_injective p.refusal q.refusal (ap (λ (t : ℕ × (ℕ × Watch)). t.0) e))
    (ap (λ (t : ℕ × (ℕ × Watch)). t.1.1) e)

pub tells_reset_injective : (r s : Result Watch Refused) → tells_reset r ≡ tells_reset s → r ≡ s
tells_reset_injective r s e = tells_injective r s e

pub reads_unique : {chip : ℕ} {old : List ℕ} {address : ℕ} {watch : Watch} {r s : Result (ℕ × Watch) Refused} {l m : List ℕ}
    → ReadsByte chip old address watch r l → ReadsByte chip old address watch s m → (r ≡ s) × (l ≡ m)
reads_unique {r = r} {s = s} p q = (tells_byte_injective r s (p.answer ∙ sym q.answer), p.bytes ∙ sym q.bytes)

pub resets_chip_unique : {chip : ℕ} {old : List ℕ} {watch : Watch} {r s : Result Watch Refused} {l m : List ℕ}
    → ResetsChip chip old watch r l → ResetsChip chip old watch s m → (r ≡ s) × (l ≡ m)
resets_chip_unique {r = r} {s = s} p q = (tells_reset_injective r s (p.answer ∙ sym q.answer), p.bytes ∙ sym q.bytes)
