-- `put` meets its contract: a text that fits is copied whole behind what is there.
-- Assumes nothing.
use Rattle.std.proofs.Common.{rules}
use Prim.Native.Nat.{ℕ, ◌+◌, ◌-◌, min}
use native.Mathlib.Omega.{arith}
use mathlib.Core.Path.{◌≡◌, refl, sym, ap₂, ◌∙◌}
use mathlib.Core.List.{List}
use borrow.Rule.Slice.PartMut.{put_mid}
use lib.ListN.{length, take}
use lib.Seq.{take_all}
use Rattle.translation.proofs.Adding.{copied}
use Rattle.translation.proofs.output.Output.put.Goals as goal

pub returns : goal.returns
returns g c =
    let old = c.args.self.now.buffer.now in
    let text = c.args.text in
    let start = c.args.self.now.length in
    let long : length c.args.text ≡ g.row.N = search rules in
    let count : (start + g.row.N) - start ≡ g.row.N = omega arith in
    let whole : text ≡ take g.row.N text = sym (take_all g.row.N text (omega (arith, long))) in
    let here : start ≡ min start (length old) = omega (arith, c.requires.fits) in
    let fits : g.row.N ≡ min (length text) (length old - start) = omega (arith, long, c.requires.fits) in
    record {
      same = refl;
      next = search rules;
      bytes =
          ap₂ (λ (n : ℕ) (l : List ℕ). put_mid start n old l) count (c.copy_from_slice.ensures.after ∙ whole)
          ∙ copied old text start start g.row.N here fits;
    }
