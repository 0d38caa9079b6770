-- What a line says of a lent buffer is one text.
-- Assumes nothing.
use Rattle.std.proofs.Common.{◌≡◌, ℕ, List, true, false, Bool, refl, sym, ◌∙◌}
use Rattle.std.specs.Str.{bytes_eq}
use Rattle.std.proofs.lemmas.Slice.Eq.{bytes_eq-Decides}
use Rattle.std.proofs.lemmas.Bool.{false≢true}
use Rattle.figures_printing.specs.Pieces.{SaysKept, all_filled}

-- whichever is the case, two texts that meet the contract do not differ
never_differ : (buffer text other : List ℕ) → SaysKept buffer text → SaysKept buffer other → (text ≡ other → ⊥) → ⊥
never_differ buffer text other this that differ =
    let altered : all_filled buffer → ⊥ = λ filled. differ (this.filled filled ∙ sym (that.filled filled)) in
    differ (this.altered altered ∙ sym (that.altered altered))

pub kept_unique : (buffer text other : List ℕ) → SaysKept buffer text → SaysKept buffer other → text ≡ other
kept_unique buffer text other this that = by_test (bytes_eq text other) refl
  where
    by_test : (same : Bool) → bytes_eq text other ≡ same → text ≡ other
    by_test true same = (bytes_eq-Decides text other).0 same
    by_test false apart = absurd (never_differ buffer text other this that (λ equal. false≢true (sym apart ∙ (bytes_eq-Decides text other).1 equal)))
