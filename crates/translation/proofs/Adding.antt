-- Adding texts to an output: one text behind another is added as one, and of a text that reaches past the buffer's end the front is written.
-- Assumes nothing.
use Prim.Native.Nat.{ℕ, suc, ◌+◌, ◌-◌, ◌≤◌, min}
use native.Mathlib.Nat.{add-zero}
use native.Mathlib.Omega.{arith}
use mathlib.Core.Path.{◌≡◌, refl, sym, ap, ap₂, subst, ◌∙◌}
use mathlib.Core.Bool.{Bool, true, false}
use mathlib.Core.List.{List, [], ◌∷◌, ◌++◌, append-nil, append_assoc}
use borrow.Author.Tests.{leb-true, leb-false}
use borrow.Rule.Slice.PartMut.{put_mid}
use lib.Dec.{leb}
use lib.ListN.{length, take, drop, set, length-append}
use lib.Seq.{sets, sets-eq, length-sets, length-take-le, take_all, drop-drop}
use Rattle.std.proofs.lemmas.List.{set_past, take-append-drop, drop_all}
use Rattle.translation.specs.declared.output.Output.{Output}
use Rattle.translation.specs.Words.{ascii}
use Rattle.translation.specs.Text.{line}
use Rattle.translation.specs.Parts.{Adds}

sets_append : (old s t : List ℕ) (at : ℕ) → sets (sets old at s) (at + length s) t ≡ sets old at (s ++ t)
sets_append old [] t at = ap (λ (n : ℕ). sets old n t) (add-zero at)
sets_append old (x ∷ s) t at =
    let past : at + suc (length s) ≡ suc at + length s = omega arith in
    ap (λ (n : ℕ). sets (sets (set old at x) (suc at) s) n t) past ∙ sets_append (set old at x) s t (suc at)

pub adds_none : (output : Output) → Adds [] output output
adds_none output = record { same = refl; next = sym (add-zero output.length); bytes = refl }

pub adds_then : {s t : List ℕ} {before mid after : Output} → Adds s before mid → Adds t mid after → Adds (s ++ t) before after
adds_then {s} {t} {before} {mid} {after} a b =
    record {
      same = b.same ∙ a.same;
      next = omega (arith, length-append s t, a.next, b.next);
      bytes = b.bytes ∙ ap₂ (λ (l : List ℕ) (n : ℕ). sets l n t) a.bytes a.next ∙ sets_append before.buffer.now s t before.length;
    }

pub adds_as : {s t : List ℕ} {before after : Output} → s ≡ t → Adds s before after → Adds t before after
adds_as {s} {t} {before} {after} e a = subst (λ (text : List ℕ). Adds text before after) e a

-- a text, and what is left of its line
pub adds_line : (s t : List ℕ) {before mid after : Output} → Adds s before mid → Adds (line t) mid after → Adds (line (s ++ t)) before after
adds_line s t a b = adds_as (sym (append_assoc s t (ascii "\n"))) (adds_then a b)

-- past the buffer's end nothing is written
pub sets_past : (text old : List ℕ) (at : ℕ) → length old ≤ at → sets old at text ≡ old
sets_past [] old at h = refl
sets_past (x ∷ text) old at h =
    ap (λ (l : List ℕ). sets l (suc at) text) (set_past old at x h) ∙ sets_past text old (suc at) (omega arith)

-- what reaches past it is left out
sets_front : (old text : List ℕ) (at fits : ℕ) → at ≤ length old → fits ≡ min (length text) (length old - at) → sets old at text ≡ sets old at (take fits text)
sets_front old text at fits h e = by_length (leb (length text) fits) refl
  where
    front : List ℕ
    front = take fits text

    long : length front ≡ fits
    long = length-take-le fits text (omega arith)

    by_length : (all : Bool) → leb (length text) fits ≡ all → sets old at text ≡ sets old at front
    by_length true t = ap (sets old at) (sym (take_all fits text (leb-true (length text) fits t)))
    by_length false t =
        let some = leb-false (length text) fits t in
        ap (sets old at) (sym (take-append-drop fits text))
        ∙ sym (sets_append old front (drop fits text) at)
        ∙ sets_past (drop fits text) (sets old at front) (at + length front) (omega (arith, long, length-sets old at front))

-- so the part that fits is the text where it fits
pub copied : (old text : List ℕ) (at start fits : ℕ) → start ≡ min at (length old) → fits ≡ min (length text) (length old - start)
    → put_mid start fits old (take fits text) ≡ sets old at text
copied old text at start fits s f = by_place (leb at (length old)) refl
  where
    front : List ℕ
    front = take fits text

    by_place : (inside : Bool) → leb at (length old) ≡ inside → put_mid start fits old front ≡ sets old at text
    by_place true t =
        let h = leb-true at (length old) t in
        let same : start ≡ at = omega arith in
        let long : length front ≡ fits = length-take-le fits text (omega arith) in
        ap (λ (n : ℕ). put_mid n fits old front) same
        ∙ ap (λ (l : List ℕ). take at old ++ (front ++ l)) (drop-drop fits at old ∙ ap (λ (n : ℕ). drop (at + n) old) (sym long))
        ∙ sym (sets-eq front old at (omega arith) ∙ append_assoc (take at old) front (drop (at + length front) old))
        ∙ sym (sets_front old text at fits h (f ∙ ap (λ (n : ℕ). min (length text) (length old - n)) same))
    by_place false t =
        let past = leb-false at (length old) t in
        let none : fits ≡ 0 = omega arith in
        let last : start ≡ length old = omega arith in
        ap₂ (λ (m n : ℕ). put_mid m n old (take n text)) last none
        ∙ ap₂ (λ (l m : List ℕ). l ++ m) (take_all (length old) old (omega arith)) (drop_all (length old) old (omega arith))
        ∙ append-nil old
        ∙ sym (sets_past text old at (omega arith))
