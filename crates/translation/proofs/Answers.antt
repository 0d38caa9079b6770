-- What each answer of `translate` knows is what its contract asks: the text's length, and the text at the buffer's front where it fits.
-- Assumes nothing.
use Rattle.std.specs.Prelude.{Result, Ok}
use Prim.Native.Nat.{ℕ, ◌≤◌, ◌<◌}
use native.Mathlib.Nat.{zero-add}
use native.Mathlib.Omega.{arith}
use mathlib.Core.Path.{◌≡◌, refl, ap, ◌∙◌}
use mathlib.Core.List.{List, ◌++◌}
use borrow.Author.Tests.{lt-ltb, le-ltb}
use lib.ListN.{length, drop}
use lib.Seq.{sets, sets-eq}
use Rattle.refusal.specs.declared.Refusal.{Refusal}
use Rattle.translation.specs.Text.{too_long, text_from, text_of}
use Rattle.translation.specs.Promises.{Translates}
use Rattle.translation.proofs.Bound.{text_short}
use Rattle.translation.proofs.Unique.{translates_unique}

pub text_too_long : (input : List ℕ) → 4096 < length input → too_long ≡ text_of input
unfolding text_of
text_too_long input h = rw (lt-ltb 4096 (length input) h)

pub text_read : (input : List ℕ) → length input ≤ 4096 → text_from (length input) 0 input ≡ text_of input
unfolding text_of
text_read input h = rw (le-ltb 4096 (length input) h)

pub translated : (input old : List ℕ) {r : ℕ} {new : List ℕ} → length (text_of input) ≤ length old → r ≡ length (text_of input) → new ≡ sets old 0 (text_of input)
    → Translates input old (Ok r) new
translated input old {r} {new} h l b =
    let text = text_of input in
    let room = le-ltb (length old) (length text) h in
    let placed : new ≡ text ++ drop (length text) old =
    b
    ∙ sets-eq text old 0 (rw (zero-add (length text)) h)
    ∙ ap (λ (n : ℕ). text ++ drop n old) (zero-add (length text)) in
    record { answer = rw room (ap (λ (n : ℕ). (0, n)) l); bytes = rw room placed }

-- a buffer of 40,979 bytes takes the text of any input
pub always_written : {input old : List ℕ} {r : Result ℕ Refusal} {new : List ℕ} → 40979 ≤ length old → Translates input old r new
    → r ≡ Ok (length (text_of input))
always_written {input} {old} {r} {new} h t =
    (translates_unique t (translated input old (omega (arith, text_short input)) refl refl)).0
