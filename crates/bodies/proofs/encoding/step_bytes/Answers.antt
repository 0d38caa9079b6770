-- `bodies::encoding::step_bytes` meets its contract: bounds and counts are what stands at their places, and a count has two bytes.
-- Assumes nothing.
use Prim.Native.Nat.{ℕ, ◌/◌, ◌%◌, ◌<◌, ◌^◌}
use native.Mathlib.Omega.{arith}
use mathlib.Core.Path.{◌≡◌, ap₂}
use mathlib.Core.List.{List, [], ◌∷◌, ◌++◌}
use lib.ListN.{get_or}
use Rattle.std.specs.Int.{to_be_bytes, w16}
use Rattle.std.proofs.lemmas.Grind.{common_steps}
use Rattle.pages.specs.Rows.{column}
use Rattle.pages.specs.Sheets.{longest}
use Rattle.curves.specs.Curves.{halves}
use Rattle.curves.proofs.Registers.{spelled}
use borrow.Author.Rules.{rules}
use Rattle.bodies.proofs.encoding.step_bytes.Goals as goal

abbrev two_bytes : ℕ → List ℕ
two_bytes x = (x / 256) ∷ ((x % 256) ∷ [])

as_two : (x : ℕ) → x < 2 ^ 16 → to_be_bytes w16 x ≡ two_bytes x
as_two x h = grind (arith, common_steps)

pub returns : goal.returns
unfolding column halves
returns c =
    let a = c.args in
    let v = a.values in
    let one : get_or c.map.result 0 [] ≡ two_bytes (get_or v.counts 0 0) = search (rules, as_two) in
    let two : get_or c.map.result 1 [] ≡ two_bytes (get_or v.counts 1 0) = search (rules, as_two) in
    let three : get_or c.map.result 2 [] ≡ two_bytes (get_or v.counts 2 0) = search (rules, as_two) in
    let four : get_or c.map.result 3 [] ≡ two_bytes (get_or v.counts 3 0) = search (rules, as_two) in
    let five : get_or c.map.result 4 [] ≡ two_bytes (get_or v.counts 4 0) = search (rules, as_two) in
    rw (one, two, three, four, five)
    (ap₂ (λ (bs cs : List ℕ). column longest (λ k. get_or (bs ++ halves cs) k 0))
    (spelled v.bounds 4 (search rules)) (spelled v.counts 5 (search rules)))
