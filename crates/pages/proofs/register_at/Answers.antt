-- `pages::register_at` meets its contract: a stretch's registers stand behind those of the stretches before it.
-- Assumes nothing.
use Prim.Native.Nat.{ℕ, ◌+◌, ◌-◌, ◌≤◌, ◌<◌}
use native.Mathlib.Omega.{arith}
use mathlib.Core.List.{List, ◌++◌}
use mathlib.Core.Path.{◌≡◌, sym, ap, ◌∙◌}
use lib.ListN.{length, get_or, length-map, get_or-append}
use lib.Seq.{get_or-append-add}
use Rattle.pages.specs.declared.Register.{Register}
use Rattle.pages.specs.declared.Stretch.{Stretch}
use Rattle.pages.specs.Rows.{from, with_masks, spread, no_register}
use Rattle.pages.proofs.Columns.{run_length}
use Rattle.pages.proofs.register_at.Goals as goal

spread-length : (r : Stretch) → length (spread r) ≡ r.count
spread-length r = length-map (from r.first r.count) (with_masks r.masks) ∙ run_length (λ n. n) r.first r.count

-- inside the first stretch, and behind it
inside : (r : Stretch) (more : List Register) (k : ℕ) → k < r.count → get_or (spread r) k no_register ≡ get_or (spread r ++ more) k no_register
inside r more k h = sym (get_or-append (spread r) more no_register k (omega (arith, spread-length r, h)))

behind : (r : Stretch) (more : List Register) (k : ℕ) → r.count ≤ k → get_or more (k - r.count) no_register ≡ get_or (spread r ++ more) k no_register
behind r more k h =
    let place : length (spread r) + (k - r.count) ≡ k = omega (arith, spread-length r, h) in
    sym (get_or-append-add (spread r) more (k - r.count) no_register) ∙ ap (λ (n : ℕ). get_or (spread r ++ more) n no_register) place

pub returns-then-k-before : goal.returns-then-k-before
returns-then-k-before c =
    let a = c.args in
    let p = a.stretches in
    record { answer = c.in_a_row.ensures ∙ inside p.settings (spread p.last ++ spread p.speeds) a.k c.if-k-before.true }

pub returns-then-k-through : goal.returns-then-k-through
returns-then-k-through c =
    let a = c.args in
    let p = a.stretches in
    record {
      answer =
          c.in_a_row-then-k-through.ensures
          ∙ inside p.last (spread p.speeds) (a.k - p.settings.count) (omega (arith, c.if-k-through.true, c.if-k-before.false))
          ∙ behind p.settings (spread p.last ++ spread p.speeds) a.k c.if-k-before.false;
    }

pub returns : goal.returns
returns c =
    let a = c.args in
    let p = a.stretches in
    let place : a.k - (p.settings.count + p.last.count) ≡ a.k - p.settings.count - p.last.count = omega arith in
    record {
      answer =
          c.in_a_row-2.ensures
          ∙ ap (λ (n : ℕ). get_or (spread p.speeds) n no_register) place
          ∙ behind p.last (spread p.speeds) (a.k - p.settings.count) (omega (arith, c.if-k-through.false))
          ∙ behind p.settings (spread p.last ++ spread p.speeds) a.k c.if-k-before.false;
    }
