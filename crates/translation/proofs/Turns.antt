-- The text of the bytes left, without the turns: enough turns never run out, so what is printed is decided by the bytes alone.
-- Assumes nothing.
use Prim.Native.Nat.{ℕ, zero, suc, ◌+◌, ◌≤◌, ◌<◌}
use native.Mathlib.Omega.{arith}
use mathlib.Core.Path.{◌≡◌, refl, sym, ap}
use mathlib.Core.Bool.{Bool, true, false, cond}
use mathlib.Core.List.{List, [], ◌∷◌, ◌++◌}
use borrow.Author.Tests.{eqb-true, eq-eqb, ne_eqb}
use lib.Dec.{eqb}
use lib.ListN.{length, drop, length-drop}
use Rattle.records.specs.Records.{plan_in}
use Rattle.translation.specs.Text.{refusal_in, used_in, plan_text, refused_line, end_line, text_from}
use Rattle.translation.proofs.Accepted.{accepted}

-- an accepted record leaves fewer bytes
shorter : (bytes : List ℕ) → refusal_in bytes ≡ 0 → length (drop (used_in bytes) bytes) < length bytes
shorter bytes e =
    let a = accepted bytes e in
    omega (arith, a.whole, a.least, length-drop (used_in bytes) bytes)

-- a turn for each byte is enough, and more make no difference
turns_enough : (m n plans : ℕ) (bytes : List ℕ) → length bytes ≤ m → length bytes ≤ n → text_from m plans bytes ≡ text_from n plans bytes
turns_enough zero zero plans bytes h l = refl
turns_enough zero (suc n) plans bytes h l = sym (rw (eq-eqb (length bytes) 0 (omega arith)))
turns_enough (suc m) zero plans bytes h l = rw (eq-eqb (length bytes) 0 (omega arith))
turns_enough (suc m) (suc n) plans bytes h l =
    by_check (λ s. turns_enough m n (plans + 1) (drop (used_in bytes) bytes) (omega arith) (omega arith)) (eqb (refusal_in bytes) 0) refl
  where
    by_check : (length (drop (used_in bytes) bytes) < length bytes
        → text_from m (plans + 1) (drop (used_in bytes) bytes) ≡ text_from n (plans + 1) (drop (used_in bytes) bytes))
        → (good : Bool) → eqb (refusal_in bytes) 0 ≡ good → text_from (suc m) plans bytes ≡ text_from (suc n) plans bytes
    by_check go true t =
        ap
        (λ (l : List ℕ). cond (eqb (length bytes) 0) (end_line plans) (cond (eqb (refusal_in bytes) 0) (plan_text (plans + 1) (plan_in bytes) ++ l) (refused_line (plans + 1) (refusal_in bytes))))
        (go (shorter bytes (eqb-true (refusal_in bytes) 0 t)))
    by_check go false t = rw t

-- the text of the bytes left behind some plans
abbrev pub text_left : ℕ → List ℕ → List ℕ
text_left plans bytes = text_from (length bytes) plans bytes

-- "when no byte is left"
pub ends : (plans : ℕ) (bytes : List ℕ) → length bytes ≡ 0 → text_left plans bytes ≡ end_line plans
ends plans [] h = refl
ends plans (b ∷ bytes) h = absurd (omega arith)

-- "At a refusal"
pub refuses : (plans : ℕ) (bytes : List ℕ) → 0 < length bytes → 0 < refusal_in bytes → text_left plans bytes ≡ refused_line (plans + 1) (refusal_in bytes)
refuses plans [] h r = absurd (omega arith)
refuses plans (b ∷ bytes) h r =
    rw (ne_eqb (length (b ∷ bytes)) 0 (λ e. omega arith), ne_eqb (refusal_in (b ∷ bytes)) 0 (λ e. omega arith))

-- a plan, and what is left behind its record
pub goes_on : (plans : ℕ) (bytes : List ℕ) → 0 < length bytes → refusal_in bytes ≡ 0
    → text_left plans bytes ≡ plan_text (plans + 1) (plan_in bytes) ++ text_left (plans + 1) (drop (used_in bytes) bytes)
goes_on plans [] h e = absurd (omega arith)
goes_on plans (b ∷ bytes) h e =
    let left = drop (used_in (b ∷ bytes)) (b ∷ bytes) in
    let fewer = shorter (b ∷ bytes) e in
    rw (ne_eqb (length (b ∷ bytes)) 0 (λ z. omega arith), eq-eqb (refusal_in (b ∷ bytes)) 0 e)
    (ap (λ (l : List ℕ). plan_text (plans + 1) (plan_in (b ∷ bytes)) ++ l)
    (turns_enough (length bytes) (length left) (plans + 1) left (omega arith) (omega arith)))
