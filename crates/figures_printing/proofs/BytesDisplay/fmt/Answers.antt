-- What is written and what is left are together all bytes, pair by pair.
use Rattle.std.proofs.Common.{rules, arith, ◌≡◌, ◌<◌, ℕ, min, List, [], ◌∷◌, ◌++◌, length, take, take_all, flat_map, refl, ap, ◌∙◌, append_assoc}
use Rattle.std.specs.Fmt.{HasWritten}
use Rattle.std.proofs.Output.{has_written_append}
use Rattle.std.proofs.lemmas.List.{nil_from_length}
use Rattle.std.specs.Slice.Iter.{chunks_rest}
use Rattle.figures_printing.specs.Pieces.{byte_text, bytes_text}
use Rattle.figures_printing.proofs.BytesDisplay.fmt.Goals as goal

-- a pair comes off the front, or the one byte that is left
pair_first : (all pair rest : List ℕ) → all ≡ pair ++ rest → length pair ≡ min 2 (length all) → 0 < length all
    → (32 ∷ flat_map byte_text pair) ++ bytes_text rest ≡ bytes_text all
pair_first all [] rest parts size some = absurd (omega (arith, size, some))
pair_first all (first ∷ []) rest parts size some =
    let sum = ap length parts in
    let none : rest ≡ [] = nil_from_length rest (omega (arith, size, sum)) in
    rw (parts, none) refl
pair_first all (first ∷ second ∷ []) rest parts size some = rw parts refl
pair_first all (first ∷ second ∷ third ∷ more) rest parts size some = absurd (omega (arith, size))

pub loop-pair-preserved : goal.loop-pair-preserved
loop-pair-preserved g c =
    let steps = c.in-Some.ensures.steps in
    let pair = c.in-Some.pair.now in
    let size = c.loop-pair.invariant.2 in
    let whole : take c.loop-b.b-index pair ≡ pair = take_all c.loop-b.b-index pair c.loop-b-test.false in (
      search rules,
      tt,
      steps.0 ∙ size,
      λ plain.
          let so_far = c.loop-pair.invariant.3 plain in
          let front = pair_first _ pair (chunks_rest c.next.new.self) steps.1.0 (rw size at steps.1.1) steps.1.2 in
          let gap : HasWritten g.W.Write.write_str_gives c.loop-pair.f (32 ∷ []) c.write_str.new.self = search rules in
          let digits = rw whole at c.loop-b.invariant gap.plain in (
            so_far.0 ++ (32 ∷ flat_map byte_text pair),
            has_written_append _ _ _ _ _ _ so_far.1 (has_written_append _ _ _ _ _ _ gap digits),
            append_assoc so_far.0 _ _ ∙ ap (λ (t : List ℕ). so_far.0 ++ t) front ∙ so_far.2,
          ),
    )
