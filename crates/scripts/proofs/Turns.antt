-- A turn of a load: the write of the next register, or a select of its bank; and what the pairs of some writes leave in a buffer.
-- Assumes nothing.
use Rattle.std.specs.Prelude.{Ok, Err}
use Prim.Native.Nat.{ℕ, suc, ◌+◌, ◌-◌, ◌*◌, ◌/◌, ◌%◌, ◌≤◌, ◌<◌}
use native.Mathlib.Omega.{arith}
use mathlib.Core.Path.{◌≡◌, refl, sym, ap, ap₂, subst, ◌∙◌}
use mathlib.Core.Bool.{Bool, true, false, cond}
use mathlib.Core.List.{List, [], ◌∷◌, ◌++◌, append_assoc}
use borrow.Author.Tests.{lt-ltb, le-ltb}
use lib.ListN.{length, set, drop, length-append, length-set}
use lib.Seq.{set_at}
use Rattle.refusal.specs.declared.Refusal.TheVariants.{OutputTooShort}
use Rattle.refusal.specs.Checks.{first, room_checks}
use Rattle.refusal.proofs.Passed.{when_passed, when_refused, told_passed, told_refused}
use Rattle.pages.specs.declared.Register.{Register}
use Rattle.pages.specs.Banks.{ready}
use Rattle.scripts.specs.declared.making.Cursor.{Cursor}
use Rattle.scripts.specs.declared.making.Load.{Load}
use Rattle.scripts.specs.declared.making.Write.{Write}
use Rattle.scripts.specs.Making.{registers_of, cursor_at, byte_at, register_of, bank_of, ready_at, stepped, write_from, sent, PutsPairs}

-- a turn by its register: the register's own write where its bank is ready ..
pub turn_ready : (l : Load) (bytes : List ℕ) (c : Cursor) (r : Register) (byte : ℕ) → r ≡ register_of l c.next → byte ≡ byte_at l bytes c.next
    → ready l.selector.bits c.bank r.position ≡ true
    → (◌≡◌ {A = Write} (record { register = r; byte = byte }) (write_from l bytes c))
    × (◌≡◌ {A = Cursor} (record { next = c.next + 1; bank = r.position / 256 }) (stepped l c))
turn_ready l bytes c r byte e f t =
    let now : ready_at l c ≡ true = ap (λ (x : Register). ready l.selector.bits c.bank x.position) (sym e) ∙ t in (
      (λ i. record { register = e i; byte = f i }) ∙ ap (λ (b : Bool). written b) (sym now),
      (λ i. record { next = c.next + 1; bank = (e i).position / 256 }) ∙ ap (λ (b : Bool). behind b) (sym now),
    )
  where
    written : Bool → Write
    written b =
        cond b (record { register = register_of l c.next; byte = byte_at l bytes c.next })
        (record { register = l.selector.register; byte = bank_of l c.next })

    behind : Bool → Cursor
    behind b = record { next = cond b (c.next + 1) c.next; bank = bank_of l c.next }

-- .. and a select of its bank where it is not
pub turn_select : (l : Load) (bytes : List ℕ) (c : Cursor) (r : Register) → r ≡ register_of l c.next
    → ready l.selector.bits c.bank r.position ≡ false
    → (◌≡◌ {A = Write} (record { register = l.selector.register; byte = r.position / 256 }) (write_from l bytes c))
    × (◌≡◌ {A = Cursor} (record { next = c.next; bank = r.position / 256 }) (stepped l c))
turn_select l bytes c r e t =
    let now : ready_at l c ≡ false = ap (λ (x : Register). ready l.selector.bits c.bank x.position) (sym e) ∙ t in (
      (λ i. record { register = l.selector.register; byte = (e i).position / 256 }) ∙ ap (λ (b : Bool). written b) (sym now),
      (λ i. record { next = c.next; bank = (e i).position / 256 }) ∙ ap (λ (b : Bool). behind b) (sym now),
    )
  where
    written : Bool → Write
    written b =
        cond b (record { register = register_of l c.next; byte = byte_at l bytes c.next })
        (record { register = l.selector.register; byte = bank_of l c.next })

    behind : Bool → Cursor
    behind b = record { next = cond b (c.next + 1) c.next; bank = bank_of l c.next }

-- behind a turn the turns that are left lie inside as before
pub inside_behind : (l : Load) (c : Cursor) (left : ℕ) {then : Cursor} → ((n : ℕ) → n < left → (cursor_at l c n).next < registers_of l) → then ≡ stepped l c
    → (n : ℕ) → n < left - 1 → (cursor_at l then n).next < registers_of l
inside_behind l c left inside e n h =
    subst (λ (x : Cursor). (cursor_at l x n).next < registers_of l) (sym e) (inside (suc n) (omega (arith, h)))

-- a buffer behind some writes, from the k-th pair on
abbrev pub puts : List Write → ℕ → List ℕ → List ℕ
puts [] k out = out
puts (w ∷ ws) k out = puts ws (k + 1) (set (set out (2 * k) (w.register.position % 256)) (2 * k + 1) w.byte)

-- two bytes at the seam of two lists
two_at : (front : List ℕ) (x y : ℕ) (back : List ℕ) (a b n : ℕ) → length front ≡ n
    → set (set (front ++ x ∷ (y ∷ back)) n a) (n + 1) b ≡ (front ++ a ∷ (b ∷ [])) ++ back
two_at front x y back a b n e =
    ap (λ (l : List ℕ). set l (n + 1) b) (set_at front x (y ∷ back) a n e ∙ sym (append_assoc front (a ∷ []) (y ∷ back)))
    ∙ set_at (front ++ a ∷ []) y back b (n + 1) (length-append front (a ∷ []) ∙ ap (λ (k : ℕ). k + 1) e)
    ∙ append_assoc front (a ∷ []) (b ∷ back)
    ∙ sym (append_assoc front (a ∷ (b ∷ [])) back)

-- their bytes stand there, and what is behind them is as it was
puts_sent : (ws : List Write) (k : ℕ) (front back : List ℕ) → length front ≡ 2 * k → 2 * length ws ≤ length back
    → puts ws k (front ++ back) ≡ front ++ (sent ws ++ drop (2 * length ws) back)
puts_sent [] k front back e h = refl
puts_sent (w ∷ ws) k front [] e h = absurd (omega (arith, h))
puts_sent (w ∷ ws) k front (x ∷ []) e h = absurd (omega (arith, h))
puts_sent (w ∷ ws) k front (x ∷ (y ∷ back)) e h =
    let a = w.register.position % 256 in
    let two = a ∷ (w.byte ∷ []) in
    let past : suc (suc (2 * length ws)) ≡ 2 * suc (length ws) = omega arith in
    ap (puts ws (k + 1)) (two_at front x y back a w.byte (2 * k) e)
    ∙ puts_sent ws (k + 1) (front ++ two) back (omega (arith, e, length-append front two)) (omega (arith, h))
    ∙ append_assoc front two (sent ws ++ drop (2 * length ws) back)
    ∙ ap (λ (j : ℕ). front ++ (a ∷ (w.byte ∷ (sent ws ++ drop j (x ∷ (y ∷ back)))))) past

-- with k of some writes put, those that are left go behind them, where there is room
pub record Putting (ws : List Write) (old : List ℕ) (rest : List Write) (k : ℕ) (out : List ℕ) : Type 0 where
  pub counted : k + length rest ≡ length ws
  pub room : 2 * length ws ≤ length old
  pub long : length out ≡ length old
  pub same : puts rest k out ≡ puts ws 0 old

pub putting_first : {ws rest : List Write} {old : List ℕ} {k : ℕ} → rest ≡ ws → k ≡ 0 → 2 * length ws ≤ length old → Putting ws old rest k old
putting_first {ws} {rest} {old} {k} e none h =
    record { counted = omega (arith, ap length e, none); room = h; long = refl; same = ap₂ (λ (us : List Write) (j : ℕ). puts us j old) e none }

pub putting_next : {ws : List Write} {old : List ℕ} {rest more : List Write} {k : ℕ} {out new : List ℕ} (w : Write)
    → Putting ws old rest k out → rest ≡ w ∷ more
    → new ≡ set (set out (2 * k) (w.register.position % 256)) (2 * k + 1) w.byte → Putting ws old more (k + 1) new
putting_next {ws} {old} {rest} {more} {k} {out} {new} w p e wrote =
    record {
      counted = omega (arith, p.counted, ap length e);
      room = p.room;
      long =
          ap length wrote
          ∙ length-set (set out (2 * k) (w.register.position % 256)) (2 * k + 1) w.byte
          ∙ length-set out (2 * k) (w.register.position % 256)
          ∙ p.long;
      same = ap (puts more (k + 1)) wrote ∙ ap (λ (us : List Write). puts us k out) (sym e) ∙ p.same;
    }

-- all of them, or none where there is no room
pub put_all : {ws : List Write} {old out : List ℕ} {rest : List Write} {n k : ℕ} → n ≡ length ws → Putting ws old rest k out → rest ≡ []
    → PutsPairs ws old (Ok n) out
put_all {ws} {old} {out} {rest} {n} {k} e p last =
    let none : first (room_checks (2 * length ws) old) ≡ 0 = rw (le-ltb (length old) (2 * length ws) p.room) in
    let same : out ≡ puts ws 0 old = ap (λ (us : List Write). puts us k out) (sym last) ∙ p.same in
    record {
      answer = ap (λ (m : ℕ). (0, m)) e ∙ told_passed (room_checks (2 * length ws) old) (length ws) none;
      pairs = same ∙ puts_sent ws 0 [] old refl p.room ∙ when_passed _ old none;
    }

pub put_none : (ws : List Write) (old : List ℕ) → length old < 2 * length ws → PutsPairs ws old (Err OutputTooShort) old
put_none ws old h =
    let all : 9 ≡ first (room_checks (2 * length ws) old) = rw (lt-ltb (length old) (2 * length ws) h) in
    record { answer = told_refused OutputTooShort (room_checks (2 * length ws) old) (length ws) all; pairs = when_refused OutputTooShort _ old all }
