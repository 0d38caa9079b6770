-- No second answer of a call on an image meets its contract, and no other bytes: what an answer tells is told by no other answer.
-- Assumes nothing.
use Rattle.std.specs.Prelude.{Result, ⊤}
use Rattle.refusal.specs.declared.Refusal.{Refusal}
use Prim.Native.Nat.{ℕ}
use mathlib.Core.Path.{◌≡◌, sym, ◌∙◌}
use mathlib.Core.List.{List}
use Rattle.refusal.proofs.Answers.{tells_injective}
use Rattle.pages.specs.declared.Chip.{Chip}
use Rattle.pages.specs.declared.Register.{Register}
use Rattle.images.specs.declared.Access.{Access}
use Rattle.images.specs.Promises.{Admits, Places, WritesByte, Looks, Resets}

pub admits_unique : {chip size : ℕ} {r s : (Result Chip Refusal)} → Admits chip size r → Admits chip size s → r ≡ s
admits_unique p q = p.answer ∙ sym q.answer

pub places_unique : {register : Register} {byte : ℕ} {old l m : List ℕ} → Places register byte old l → Places register byte old m → l ≡ m
places_unique p q = p.bytes ∙ sym q.bytes

pub writes_unique : {chip : ℕ} {old : List ℕ} {address byte : ℕ} {r s : (Result ⊤ Refusal)} {l m : List ℕ}
    → WritesByte chip old address byte r l → WritesByte chip old address byte s m → (r ≡ s) × (l ≡ m)
writes_unique {r = r} {s = s} p q = (tells_injective r s (p.answer ∙ sym q.answer), p.bytes ∙ sym q.bytes)

pub looks_unique : {chip : Chip} {image : List ℕ} {address : ℕ} {r s : Access} → Looks chip image address r → Looks chip image address s → r ≡ s
looks_unique p q = p.answer ∙ sym q.answer

pub resets_unique : {chip : ℕ} {old : List ℕ} {r s : (Result ⊤ Refusal)} {l m : List ℕ}
    → Resets chip old r l → Resets chip old s m → (r ≡ s) × (l ≡ m)
resets_unique {r = r} {s = s} p q = (tells_injective r s (p.answer ∙ sym q.answer), p.bytes ∙ sym q.bytes)
