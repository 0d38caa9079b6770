-- What a call knows once a number and a length were admitted: the chip and its image's length, or the refusal that its checks give.
-- Assumes nothing.
use Rattle.std.specs.Prelude.{Result, Option, Ok, Err, Some, None}
use Prim.Native.Nat.{ℕ}
use native.Mathlib.Omega.{arith}
use mathlib.Core.Path.{◌≡◌, refl, sym, ap, ◌∙◌}
use mathlib.Core.Bool.{Bool, true, false, cond, not}
use mathlib.Core.List.{List}
use borrow.Author.Tests.{eqb-true, eq-eqb}
use lib.Dec.{eqb}
use lib.ListN.{length}
use Rattle.refusal.specs.declared.Refusal.{Refusal}
use Rattle.refusal.specs.declared.Refusal.TheVariants.{NoSuchChip, NotAnImage}
use Rattle.refusal.specs.Refusals.{number_of}
use Rattle.refusal.specs.Checks.{first, told}
use Rattle.refusal.proofs.Passed.{told_passed, told_refused}
use Rattle.pages.specs.declared.Chip.{Chip}
use Rattle.pages.specs.Cards.{chip_of, when_known, size_of}
use Rattle.pages.proofs.Numbers.{chip_number_is}
use Rattle.images.specs.Promises.{size_checks, image_checks, tells_admitted, Admits}

-- the chip that was admitted
pub record Chip-known (number : ℕ) (chip : Chip) (size : ℕ) : Type 0 where
  pub named : chip_of number ≡ Some chip
  pub long : size ≡ size_of chip

by_length : (same : Bool) (c chip : Chip) → cond same (Ok c) (Err NotAnImage) ≡ Ok chip → (same ≡ true) × (c ≡ chip)
by_length true c chip e = (refl, cc)
by_length false c chip e = let z : ◌≡◌ {A = ℕ} 0 1 = cc in absurd (omega arith)

pub admit_known : {number size : ℕ} {r : (Result Chip Refusal)} (chip : Chip) → Admits number size r → r ≡ Ok chip → Chip-known number chip size
admit_known {number} {size} chip p e = by_name (chip_of number) refl (sym p.answer ∙ e)
  where
    by_name : (named : Option Chip) → chip_of number ≡ named
        → when_known named (λ c. cond (eqb size (size_of c)) (Ok c) (Err NotAnImage)) (Err NoSuchChip) ≡ Ok chip
        → Chip-known number chip size
    by_name (Some c) n f =
        let parts = by_length (eqb size (size_of c)) c chip f in
        record { named = n ∙ ap Some parts.1; long = eqb-true size (size_of c) parts.0 ∙ ap size_of parts.1 }
    by_name None n f = let z : ◌≡◌ {A = ℕ} 0 1 = cc in absurd (omega arith)

-- then no check applies
pub admit_passed : (number : ℕ) (chip : Chip) (image : List ℕ) → chip_of number ≡ Some chip → length image ≡ size_of chip
    → first (image_checks number image) ≡ 0
admit_passed number chip image n l = rw (n, eq-eqb (length image) (size_of chip) l)

refused_length : (same : Bool) (chip : Chip) (r : Refusal) → cond same (Ok chip) (Err NotAnImage) ≡ Err r
    → number_of r ≡ cond (not same) 8 0
refused_length true chip r e = let z : ◌≡◌ {A = ℕ} 0 1 = cc in absurd (omega arith)
refused_length false chip r e = let it : NotAnImage ≡ r = cc in sym (ap number_of it)

-- and else the refusal is that of the first that does
pub admit_refused : {number size : ℕ} {r : (Result Chip Refusal)} (refusal : Refusal) → Admits number size r → r ≡ Err refusal
    → number_of refusal ≡ first (size_checks number size)
admit_refused {number} {size} refusal p e = by_name (chip_of number) (sym p.answer ∙ e)
  where
    by_name : (named : Option Chip)
        → when_known named (λ c. cond (eqb size (size_of c)) (Ok c) (Err NotAnImage)) (Err NoSuchChip) ≡ Err refusal
        → number_of refusal ≡ cond (when_known named (λ c. false) true) 3 (cond (not (eqb size (when_known named size_of 0))) 8 0)
    by_name (Some c) f = refused_length (eqb size (size_of c)) c refusal f
    by_name None f = let it : NoSuchChip ≡ refusal = cc in sym (ap number_of it)

-- 0 and the number itself, or the first check's number and 0
pub admits_told : {number size : ℕ} {r : (Result Chip Refusal)} → Admits number size r → tells_admitted r ≡ told (size_checks number size) number
admits_told {number} {size} {r} p = by_answer r refl
  where
    by_answer : (a : Result Chip Refusal) → r ≡ a → tells_admitted a ≡ told (size_checks number size) number
    by_answer (Ok chip) e =
        let k = admit_known chip p e in
        ap (λ (n : ℕ). (0, n)) (sym (chip_number_is number chip k.named))
        ∙ told_passed (size_checks number size) number (rw (k.named, eq-eqb size (size_of chip) k.long))
    by_answer (Err refusal) e = told_refused refusal (size_checks number size) number (admit_refused refusal p e)
