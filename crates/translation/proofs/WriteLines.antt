-- The lines of a script's writes: six bytes each, one behind the other.
-- Assumes nothing.
use Prim.Native.Nat.{ℕ, ◌+◌, ◌*◌, ◌<◌}
use native.Mathlib.Numerals.{add-one}
use native.Mathlib.Omega.{arith}
use mathlib.Core.Path.{◌≡◌, refl, sym, ap, ◌∙◌}
use mathlib.Core.List.{List, [], ◌∷◌, ◌++◌, append-nil, append_assoc}
use lib.ListN.{length, get_or, take}
use lib.Seq.{take-suc, length-take-le}
use Rattle.std.proofs.lemmas.List.{map-append, length-map}
use Rattle.scripts.specs.Scripts.{Pair}
use Rattle.translation.specs.declared.output.Output.{Output}
use Rattle.translation.specs.Text.{write_line, write_lines}
use Rattle.translation.specs.Parts.{InRange, Adds, writes_of}
use Rattle.translation.proofs.Adding.{adds_then, adds_as}

lines_append : (xs ys : List Pair) → write_lines (xs ++ ys) ≡ write_lines xs ++ write_lines ys
lines_append [] ys = refl
lines_append (x ∷ xs) ys =
    ap (λ (l : List ℕ). write_line x ++ l) (lines_append xs ys) ∙ sym (append_assoc (write_line x) (write_lines xs) (write_lines ys))

pub lines_length : (ws : List Pair) → length (write_lines ws) ≡ 6 * length ws
lines_length [] = refl
lines_length (w ∷ ws) = omega (arith, lines_length ws)

-- the lines of the first writes, with that of one more
module _ (script : List (List ℕ)) (k : ℕ) (h : k < length script) where
  abbrev pub line : List ℕ
  line = write_line (get_or (get_or script k []) 0 0, get_or (get_or script k []) 1 0)

  one_more : write_lines (writes_of (take k script)) ++ line ≡ write_lines (writes_of (take (k + 1) script))
  one_more =
      let last : List (List ℕ) = get_or script k [] ∷ [] in
      ap (λ (l : List ℕ). write_lines (writes_of (take k script)) ++ l) (sym (append-nil line))
      ∙ sym (lines_append (writes_of (take k script)) (writes_of last))
      ∙ ap write_lines (sym (map-append _ (take k script) last) ∙ ap writes_of (sym (take-suc script k [] h) ∙ ap (λ (n : ℕ). take n script) (sym (add-one k))))

  pub line_within : {before after : Output} → InRange (write_lines (writes_of script)) before
      → Adds (write_lines (writes_of (take k script))) before after → InRange line after
  line_within {before} w a =
      omega (
        arith,
        a.next,
        w,
        lines_length (writes_of script),
        lines_length (writes_of (take k script)),
        length-map {B = Pair} script (λ (w : List ℕ). (get_or w 0 0, get_or w 1 0)),
        length-map {B = Pair} (take k script) (λ (w : List ℕ). (get_or w 0 0, get_or w 1 0)),
        length-take-le k script (omega arith),
      )

  pub line_added : {before mid after : Output} → Adds (write_lines (writes_of (take k script))) before mid → Adds line mid after
      → Adds (write_lines (writes_of (take (k + 1) script))) before after
  line_added a b = adds_as one_more (adds_then a b)
