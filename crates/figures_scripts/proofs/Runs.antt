-- What holds of an image since the first one, as a run comes from one count to the next.
-- Assumes nothing.
use Rattle.std.proofs.Common.{ℕ, ◌+◌, ◌<◌, ◌≤◌, List, [], ◌∷◌, ◌++◌, length, get_or, take, sym, ap, ◌∙◌, subst, add-one, take_all, take-suc}
use Rattle.curves.specs.declared.Plan.{Plan}
use Rattle.plays.specs.NeverSlower.{Since}

-- the first counts, and one more
pub one_more : {plan : Plan} {start image : List ℕ} (counts : List ℕ) (k : ℕ) → k < length counts
    → Since plan start (take k counts ++ (get_or counts k 0 ∷ [])) image → Since plan start (take (k + 1) counts) image
one_more {plan} {start} {image} counts k h =
    subst (λ (cs : List ℕ). Since plan start cs image) (sym (take-suc counts k 0 h) ∙ ap (λ (n : ℕ). take n counts) (sym (add-one k)))

-- and all of them
pub all_of : {plan : Plan} {start image : List ℕ} (counts : List ℕ) (k : ℕ) → length counts ≤ k
    → Since plan start (take k counts) image → Since plan start counts image
all_of {plan} {start} {image} counts k h = subst (λ (cs : List ℕ). Since plan start cs image) (take_all k counts h)
