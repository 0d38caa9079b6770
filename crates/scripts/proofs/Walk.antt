-- A load's writes, made one after the other, are those of a list of writes with their selects: at each cursor the rest of the list, with the bank that
-- is selected there, is what is left.
-- Assumes nothing.
use Prim.Native.Nat.{ℕ, zero, suc, ◌+◌, ◌/◌, ◌≤◌, ◌<◌}
use native.Mathlib.Numerals.{add-one}
use native.Mathlib.Omega.{arith}
use mathlib.Core.Path.{◌≡◌, refl, sym, ap, ap₂, subst, ◌∙◌}
use mathlib.Core.Bool.{Bool, true, false, cond}
use mathlib.Core.List.{List, [], ◌∷◌, map}
use borrow.Author.Tests.{eq-eqb, ltb-true, ltb-false}
use lib.Dec.{eqb, ltb}
use lib.ListN.{length, get_or, take, drop}
use lib.Seq.{drop-cons}
use Rattle.pages.specs.Banks.{Banks, no_bank, ready, selects_from}
use Rattle.scripts.specs.declared.making.Cursor.{Cursor}
use Rattle.scripts.specs.declared.making.Load.{Load}
use Rattle.scripts.specs.declared.making.Write.{Write}
use Rattle.scripts.specs.Scripts.{Pair, routed_from}
use Rattle.scripts.specs.Making.{registers_of, writes_of, byte_at, register_of, bank_of, ready_at, stepped, write_from, start, cursor_at, coming, pair_of}
use Rattle.scripts.proofs.Bus.{routed_length, has_banks}
use Rattle.scripts.proofs.Pairs.{nothing}

pub coming_length : (l : Load) (bytes : List ℕ) (c : Cursor) (n : ℕ) → length (coming l bytes c n) ≡ n
coming_length l bytes c zero = refl
coming_length l bytes c (suc n) = ap suc (coming_length l bytes (stepped l c) n)

drop_none : (ws : List Pair) (n : ℕ) → length ws ≤ n → drop n ws ≡ []
drop_none [] zero h = refl
drop_none [] (suc n) h = refl
drop_none (w ∷ ws) zero h = absurd (omega (arith, h))
drop_none (w ∷ ws) (suc n) h = drop_none ws n (omega (arith, h))

-- a load writes these pairs, by their places, with the selects of some banks
pub record Describes (l : Load) (bytes : List ℕ) (banks : Banks) (ws : List Pair) : Type 0 where
  pub registers : registers_of l ≡ length ws
  pub places : (k : ℕ) → k < length ws → ((register_of l k).position, byte_at l bytes k) ≡ get_or ws k nothing
  pub selects : l.selects ≡ selects_from banks no_bank (map (λ w. w.0) ws)
  pub bits : l.selector.bits ≡ banks.bits
  pub select : eqb banks.bits 0 ≡ false → l.selector.register.position ≡ banks.select

module _ (l : Load) (bytes : List ℕ) (banks : Banks) (ws : List Pair) (d : Describes l bytes banks ws) where
  abbrev all : List Pair
  all = routed_from banks no_bank ws

  pub walk_length : writes_of l ≡ length all
  walk_length = ap₂ ◌+◌ d.selects d.registers ∙ sym (routed_length banks no_bank ws)

  -- what is left at a cursor
  abbrev left : Cursor → List Pair
  left c = routed_from banks c.bank (drop c.next ws)

  -- a register whose bank is selected is ready
  ready_here : (p : ℕ) → ready banks.bits (p / 256) p ≡ true
  ready_here p = by_bits (eqb banks.bits 0)
    where
      by_bits : (one : Bool) → cond one true (eqb (p / 256) (p / 256)) ≡ true
      by_bits true = refl
      by_bits false = eq-eqb (p / 256) (p / 256) refl

  -- where there is a write left, there is a register, and the next write is the first of what is left
  step : (c : Cursor) → 0 < length (left c) → (c.next < length ws) × (left c ≡ pair_of (write_from l bytes c) ∷ left (stepped l c))
  step c h = (there, by_ready (ready_at l c) (sym same))
    where
      k : ℕ
      k = c.next

      p : ℕ
      p = (register_of l c.next).position

      b : ℕ
      b = byte_at l bytes c.next

      by_place : (inside : Bool) → ltb c.next (length ws) ≡ inside → c.next < length ws
      by_place true t = ltb-true c.next (length ws) t
      by_place false t =
          let none : left c ≡ [] = ap (routed_from banks c.bank) (drop_none ws c.next (ltb-false c.next (length ws) t)) in
          absurd (omega (arith, h, ap length none))

      there : c.next < length ws
      there = by_place (ltb c.next (length ws)) refl

      same : ready banks.bits c.bank p ≡ ready_at l c
      same = ap (λ (bits : ℕ). ready bits c.bank p) (sym d.bits)

      -- the next register, and those behind it
      next : drop k ws ≡ (p, b) ∷ drop (suc k) ws
      next = drop-cons ws k nothing there ∙ ap (λ (w : Pair). w ∷ drop (suc k) ws) (sym (d.places k there))

      rest : List Pair
      rest = routed_from banks (p / 256) (drop (suc k) ws)

      opened : (r : Bool) → r ≡ ready banks.bits c.bank p → left c ≡ cond r ((p, b) ∷ rest) ((banks.select, p / 256) ∷ ((p, b) ∷ rest))
      opened r e =
          ap (routed_from banks c.bank) next
          ∙ ap (λ (ready : Bool). cond ready ((p, b) ∷ rest) ((banks.select, p / 256) ∷ ((p, b) ∷ rest))) (sym e)

      write : Bool → Write
      write r = cond r (record { register = register_of l k; byte = b }) (record { register = l.selector.register; byte = bank_of l k })

      by_ready : (r : Bool) → r ≡ ready banks.bits c.bank p
          → left c ≡ pair_of (write r) ∷ routed_from banks (bank_of l k) (drop (cond r (k + 1) k) ws)
      by_ready true r = opened true r ∙ ap (λ (j : ℕ). (p, b) ∷ routed_from banks (p / 256) (drop j ws)) (sym (add-one k))
      by_ready false r =
          let banked = has_banks banks.bits c.bank p (sym r) in
          let again : routed_from banks (p / 256) (drop k ws) ≡ (p, b) ∷ rest =
          ap (routed_from banks (p / 256)) next
          ∙ ap (λ (ready : Bool). cond ready ((p, b) ∷ rest) ((banks.select, p / 256) ∷ ((p, b) ∷ rest))) (ready_here p) in
          opened false r
          ∙ ap₂ (λ (at : ℕ) (us : List Pair). (at, p / 256) ∷ us) (sym (d.select banked)) (sym again)

  turns_from : (c : Cursor) (n : ℕ) → n < length (left c) → (cursor_at l c n).next < length ws
  turns_from c zero h = (step c h).0
  turns_from c (suc n) h =
      turns_from (stepped l c) n (omega (arith, h, ap length (step c (omega (arith, h))).1))

  pairs_from : (c : Cursor) (n : ℕ) → n ≤ length (left c) → map pair_of (coming l bytes c n) ≡ take n (left c)
  pairs_from c zero h = refl
  pairs_from c (suc n) h =
      let first = (step c (omega (arith, h))).1 in
      ap (λ (us : List Pair). pair_of (write_from l bytes c) ∷ us) (pairs_from (stepped l c) n (omega (arith, h, ap length first)))
      ∙ sym (ap (take (suc n)) first)

  pub walk_turns : (n : ℕ) → n < writes_of l → (cursor_at l start n).next < registers_of l
  walk_turns n h =
      subst (λ (m : ℕ). (cursor_at l start n).next < m) (sym d.registers) (turns_from start n (omega (arith, h, walk_length)))

  -- the first n writes are the first of the list
  pub walk_pairs : (n : ℕ) → n ≤ writes_of l → map pair_of (coming l bytes start n) ≡ take n all
  walk_pairs n h = pairs_from start n (omega (arith, h, walk_length))
