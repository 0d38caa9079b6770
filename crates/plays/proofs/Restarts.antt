-- "Restart after a hang": what holds of an image from play to play, carried over any list of plays.
-- Assumes nothing.
use Rattle.std.specs.Prelude.{Some}
use Prim.Native.Nat.{ℕ}
use mathlib.Core.Path.{◌≡◌, sym, subst}
use mathlib.Core.List.{List, [], ◌∷◌, ◌++◌, map, append_assoc, append-nil}
use Rattle.refusal.specs.Checks.{first}
use Rattle.pages.specs.declared.Chip.{Chip}
use Rattle.pages.specs.Cards.{chip_of}
use Rattle.identities.specs.Promises.{identity_checks}
use Rattle.curves.specs.declared.Plan.{Plan}
use Rattle.plans.specs.Promises.{plan_checks}
use Rattle.plays.specs.NeverSlower.{Since}
use Rattle.plays.specs.Restarts.{Play, Replayed, image_after, NoneRefused, Restarts}
use Rattle.plays.proofs.NeverRefused.{play_accepted}
use Rattle.plays.proofs.NeverSlower.{since_first, since_next}

abbrev counts_of : List Play → List ℕ
counts_of plays = map (λ p. p.count) plays

since_last : (plan : Plan) (start : List ℕ) (plays : List Play) (counts image : List ℕ) → Since plan start counts image → Replayed plan image plays
    → Since plan start (counts ++ counts_of plays) (image_after image plays)
since_last plan start [] counts image since run = subst (λ (l : List ℕ). Since plan start l image) (sym (append-nil counts)) since
since_last plan start (p ∷ ps) counts image since run =
    let next = since_last plan start ps (counts ++ (p.count ∷ [])) p.image (since_next run.0 start counts since) run.1 in
    subst (λ (l : List ℕ). Since plan start l (image_after p.image ps)) (append_assoc counts (p.count ∷ []) (counts_of ps)) next

module _ (chip : Chip) (plan : Plan) (e : chip_of plan.chip ≡ Some chip) (passed : first (plan_checks plan) ≡ 0) (start : List ℕ)
    (confirmed : first (identity_checks plan.chip start) ≡ 0) where
  none_refused : (plays : List Play) (counts image : List ℕ) → Since plan start counts image → Replayed plan image plays → NoneRefused plan plays
  none_refused [] counts image since run = tt
  none_refused (p ∷ ps) counts image since run =
      let now = since.stop chip e passed confirmed in
      (play_accepted passed now.confirmed run.0, none_refused ps (counts ++ (p.count ∷ [])) p.image (since_next run.0 start counts since) run.1)

pub restarts : Restarts
restarts =
    record {
      stop = λ chip plan start plays e passed confirmed run.
          let first = since_first plan start in
          (((since_last plan start plays [] start first run).stop chip e passed confirmed).safe, none_refused chip plan e passed start confirmed plays [] start first run);
    }
