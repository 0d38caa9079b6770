-- What is written and what is left are together all changes.
use Rattle.std.proofs.Common.{rules, ◌≡◌, ℕ, ◌+◌, List, [], ◌∷◌, ◌++◌, ◌⊎◌, inl, inr, refl, ap, ◌∙◌, append_assoc, append-nil}
use Rattle.std.proofs.Output.{has_written_append, has_written_of_eq}
use Rattle.std.proofs.lemmas.Bool.{ne_eqb}
use Rattle.std.proofs.lemmas.List.{nil_from_length}
use Rattle.figures_printing.specs.Pieces.{placed_text, changes_from}
use Rattle.figures_printing.proofs.ChangesDisplay.fmt.Goals as goal

change_first : (at o n : ℕ) (olds news old new : List ℕ) → olds ≡ o ∷ old → news ≡ n ∷ new → (o ≡ n → ⊥)
    → placed_text at n ++ changes_from (at + 1) old new ≡ changes_from at olds news
change_first at o n olds news old new first second other = rw (first, second, ne_eqb o n other) refl

-- where one image has ended
no_more : (at : ℕ) (old new : List ℕ) → (old ≡ []) ⊎ (new ≡ []) → changes_from at old new ≡ []
no_more at old new (inl none) = rw none refl
no_more at [] new (inr none) = refl
no_more at (o ∷ old) new (inr none) = rw none refl

pub loop-at-preserved-in-Continue-1 : goal.loop-at-preserved-in-Continue-1
loop-at-preserved-in-Continue-1 g c =
    let steps = c.in-Some.ensures.steps in (
      search rules,
      tt,
      λ plain.
          let so_far = c.loop-at.invariant.2 plain in
          let front = change_first c.loop-at.at-iterator.count _ _ _ _ _ _ steps.0.0 steps.0.1 c.if-old-new.true in (
            so_far.0 ++ placed_text c.in-Some.at c.in-Some.new.now,
            has_written_append _ _ _ _ _ _ so_far.1 (search rules),
            append_assoc so_far.0 _ _ ∙ ap (λ (t : List ℕ). so_far.0 ++ t) (rw (steps.1, steps.2) front) ∙ so_far.2,
          ),
    )

pub returns-clause-writes : goal.returns-clause-writes
returns-clause-writes g c = λ plain written.
    let so_far = c.loop-at.invariant.2 plain in
    let old = c.loop-at.at-iterator.iter.a.rest.now in
    let new = c.loop-at.at-iterator.iter.b.rest.now in
    let ended : (old ≡ []) ⊎ (new ≡ []) =
    elim c.in-None.ensures.steps.0 [
      | inl first ↦ inl (nil_from_length old first.1.0)
      | inr second ↦ inr (nil_from_length new second.1.0)
    ] in
    has_written_of_eq _ _ _ _ _ (rw (no_more _ old new ended, append-nil) at so_far.2) so_far.1
