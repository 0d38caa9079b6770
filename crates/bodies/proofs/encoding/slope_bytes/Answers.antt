-- `bodies::encoding::slope_bytes` meets its contract: each part is laid behind the one before it, and more points than eight are not there.
-- Assumes nothing.
use Prim.Native.Nat.{ℕ, ◌+◌, ◌-◌, ◌≤◌}
use native.Mathlib.Omega.{arith}
use mathlib.Core.Path.{◌≡◌, refl, ap, ◌∙◌}
use mathlib.Core.Bool.{cond}
use mathlib.Core.List.{List, [], ◌∷◌, ◌++◌}
use lib.ListN.{length, get_or, take, set, length-append}
use lib.Seq.{length-take-le}
use borrow.Rule.Slice.PartMut.{put_mid}
use Rattle.pages.specs.Rows.{column}
use Rattle.pages.specs.Sheets.{most_points, longest}
use Rattle.bodies.specs.Bodies.{slope_body}
use Rattle.bodies.proofs.Laws.{settings_length}
use Rattle.bodies.proofs.Laid.{padded, laid_behind, one_behind, padded_column}
use Rattle.bodies.proofs.Room.{body_in_room}
use borrow.Author.Rules.{rules}
use Rattle.bodies.proofs.encoding.slope_bytes.Goals.{then-leading, else-leading}
use Rattle.bodies.proofs.encoding.slope_bytes.Goals as goal

pub returns : goal.returns
returns c =
    let a = c.args in
    let v = a.values in
    let n = c.count_of-count.result in
    let ts : List ℕ = take n v.temperatures in
    let ds : List ℕ = take n v.duties in
    let few : n ≤ most_points = omega (arith, c.count_of-count.ensures.answer) in
    let room : length v.temperatures ≡ most_points = search rules in
    let space : length v.duties ≡ most_points = search rules in
    let long : length ts ≡ n = length-take-le n v.temperatures (omega (arith, few, room)) in
    let deep : length ds ≡ n = length-take-le n v.duties (omega (arith, few, space)) in
    let settings : List ℕ = cond a.leading (v.critical ∷ ts) (ts ++ (v.critical ∷ [])) in
    let wide : length settings ≡ n + 1 = settings_length a.leading v.critical ts ∙ ap (λ (k : ℕ). k + 1) long in
    let duties : c.copy_from_slice-2.new.self ≡ ds = search rules in
    let laid : c.if-leading.bytes ≡ padded settings = elim c.if-leading.branch [
      | then-leading w ↦
          w.bytes-is
          ∙ rw (w.if-leading.true, w.copy_from_slice.ensures.after) (laid_behind (v.critical ∷ []) ts 1 (n + 1 - 1) refl (omega (arith, long)))
      | else-leading w ↦
          let front : put_mid 0 n (padded []) w.copy_from_slice-else-leading.new.self ≡ padded ts =
          rw w.copy_from_slice-else-leading.ensures.after (laid_behind [] ts 0 n refl long) in
          w.bytes-is
          ∙ ap (λ (l : List ℕ). set l n v.critical) front
          ∙ rw w.if-leading.false (one_behind ts n v.critical long (omega (arith, few)))
    ] in
    let behind : put_mid (n + 1) (n + 1 + n - (n + 1)) c.if-leading.bytes c.copy_from_slice-2.new.self ≡ padded (settings ++ ds) =
    rw (laid, duties) (laid_behind settings ds (n + 1) (n + 1 + n - (n + 1)) wide (omega (arith, deep))) in
    behind
    ∙ padded_column (settings ++ ds) (omega (arith, length-append settings ds, wide, deep, few))
    ∙ ap (λ (m : ℕ). column longest (λ k. get_or (slope_body a.leading m v.temperatures v.critical v.duties) k 0)) c.count_of-count.ensures.answer
    ∙ ap (λ (l : List ℕ). column longest (λ k. get_or l k 0)) (body_in_room a.leading a.points v.temperatures v.critical v.duties room space)
