-- `images::reset` meets its contract: what is not refused is the power-on column, as much of it as the image is long.
-- Assumes nothing.
use Rattle.std.specs.Prelude.{Option}
use Rattle.pages.specs.declared.Chip.{Chip}
use Prim.Native.Nat.{ℕ, ◌≤◌}
use native.Mathlib.Omega.{arith}
use mathlib.Core.Path.{◌≡◌, refl, sym, ap, ◌∙◌}
use mathlib.Core.List.{List}
use lib.ListN.{length, take}
use lib.Seq.{length-take-le}
use Rattle.refusal.proofs.Passed.{when_passed}
use Rattle.pages.specs.Rows.{column}
use Rattle.pages.specs.Sheets.{power_on_in}
use Rattle.pages.specs.Cards.{row_of, power_on, when_known}
use Rattle.pages.proofs.Columns.{column_length}
use Rattle.pages.proofs.Sound.{sound_sheet}
use Rattle.images.proofs.Admission.{admit_known, admit_passed}
use Rattle.images.proofs.reset.Goals as goal

-- the front of a list that is long enough is filled as far as the image is long
filled : {n : ℕ} (zeros : List ℕ) {working : List ℕ} (f : ℕ → ℕ) → working ≡ column (length (take n zeros)) f → n ≤ length zeros
    → (length working ≡ n) × (working ≡ column n f)
filled {n} zeros {working} f e h =
    let all : working ≡ column n f = e ∙ ap (λ (m : ℕ). column m f) (length-take-le n zeros h) in
    (ap length all ∙ column_length n f, all)

pub slice_bounds-zeros-end : goal.slice_bounds-zeros-end
slice_bounds-zeros-end c =
    let chip = c.in_ok-known.known in
    let K = admit_known chip c.in_ok-known.ensures refl in
    omega (arith, K.long, (sound_sheet chip).size)

pub slice_bounds-working-end : goal.slice_bounds-working-end
slice_bounds-working-end c =
    let chip = c.in_ok-known.known in
    let K = admit_known chip c.in_ok-known.ensures refl in
    sym (length-take-le _ _ (omega (arith, K.long, (sound_sheet chip).size)))

pub copy_from_slice-requires : goal.copy_from_slice-requires
copy_from_slice-requires c =
    let chip = c.in_ok-known.known in
    let K = admit_known chip c.in_ok-known.ensures refl in
    sym (filled _ (λ p. (row_of chip p).power) c.fill.ensures (omega (arith, K.long, (sound_sheet chip).size))).0

pub returns : goal.returns
unfolding power_on_in row_of
returns c =
    let a = c.args in
    let chip = c.in_ok-known.known in
    let K = admit_known chip c.in_ok-known.ensures refl in
    let none = admit_passed a.chip chip a.image.now K.named K.long in
    record {
      answer = sym none;
      bytes = c.copy_from_slice.ensures.after
          ∙ (filled _ (λ p. (row_of chip p).power) c.fill.ensures (omega (arith, K.long, (sound_sheet chip).size))).1
          ∙ ap (λ (n : ℕ). column n (λ p. (row_of chip p).power)) K.long
          ∙ sym (ap (λ (n : Option Chip). when_known n power_on a.image.now) K.named)
          ∙ when_passed _ a.image.now none;
    }
