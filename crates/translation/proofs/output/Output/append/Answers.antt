-- `append` meets its contract: of the text the part that fits, the whole or its front, is copied behind what is there.
-- Assumes nothing.
use Prim.Native.Nat.{ℕ, ◌+◌, ◌-◌, ◌≤◌, min}
use native.Mathlib.Omega.{arith}
use mathlib.Core.Path.{◌≡◌, refl, sym, ap, ap₂, ◌∙◌}
use mathlib.Core.List.{List}
use borrow.Rule.Slice.PartMut.{put_mid}
use lib.ListN.{length, take}
use lib.Seq.{take_all}
use Rattle.translation.proofs.Adding.{copied, sets_past}
use Rattle.translation.proofs.output.Output.append.Goals as goal

pub returns-then-text-room : goal.returns-then-text-room
returns-then-text-room c =
    let old = c.args.self.now.buffer.now in
    let text = c.args.text.now in
    let start = c.min-start.result in
    let count : (start + length text) - start ≡ length text = omega arith in
    let whole : text ≡ take (length text) text = sym (take_all (length text) text (omega arith)) in
    let fits : length text ≡ min (length text) (length old - start) = omega (arith, c.if-text-room.true) in
    record {
      same = refl;
      next = refl;
      bytes =
          ap₂ (λ (n : ℕ) (l : List ℕ). put_mid start n old l) count (c.copy_from_slice.ensures.after ∙ whole)
          ∙ copied old text c.args.self.now.length start (length text) c.min-start.ensures fits;
    }

pub returns-then-room-gt0 : goal.returns-then-room-gt0
returns-then-room-gt0 c =
    let old = c.args.self.now.buffer.now in
    let text = c.args.text.now in
    let start = c.min-start.result in
    let room = length old - start in
    let fits : room ≡ min (length text) room = omega (arith, c.if-text-room.false) in
    record {
      same = refl;
      next = refl;
      bytes =
          ap (λ (l : List ℕ). put_mid start room old l) c.copy_from_slice-then-room-gt0.ensures.after
          ∙ copied old text c.args.self.now.length start room c.min-start.ensures fits;
    }

-- without room the text is only counted
pub returns-else-room-gt0 : goal.returns-else-room-gt0
returns-else-room-gt0 c =
    let past : length c.args.self.now.buffer.now ≤ c.args.self.now.length = omega (arith, c.min-start.ensures, c.if-room-gt0.false) in
    record { same = refl; next = refl; bytes = sym (sets_past c.args.text.now c.args.self.now.buffer.now c.args.self.now.length past) }
