-- `records::forms::put_body` meets its contract: the point count leads where there is one, and the body fills the rest.
-- Assumes nothing.
use Prim.Native.Nat.{ℕ, ◌+◌, ◌-◌, ◌<◌, ◌≤◌}
use native.Mathlib.Omega.{arith}
use mathlib.Core.Path.{◌≡◌, ap, ◌∙◌}
use mathlib.Core.List.{List, [], ◌∷◌, ◌++◌}
use borrow.Rule.Slice.PartMut.{put_mid}
use lib.ListN.{length, set, drop_of_length-le, length-set}
use Rattle.std.proofs.lemmas.List.{append-nil}
use Rattle.records.proofs.forms.put_body.Goals as goal

led : (out body : List ℕ) (points k : ℕ) → 0 < length out → length out ≤ 1 + k → put_mid 1 k (set out 0 points) body ≡ points ∷ body
led [] body points k h e = absurd (omega arith)
led (b ∷ out) body points k h e =
    ap (λ (l : List ℕ). points ∷ (body ++ l)) (drop_of_length-le out (omega arith)) ∙ ap (λ (l : List ℕ). points ∷ l) (append-nil body)

pub returns-then-counted : goal.returns-then-counted
returns-then-counted c =
    let a = c.args in
    let first : 1 + length a.body.now ≡ length a.out.now = rw c.if-counted.true at c.requires in
    rw (c.if-counted.true, c.copy_from_slice.ensures.after)
    (led a.out.now a.body.now a.points (length (set a.out.now 0 a.points) - 1) (omega (arith, first)) (omega (arith, length-set a.out.now 0 a.points)))
