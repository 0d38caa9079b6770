-- An accepted plan on a confirmed image is never refused: no check of `play` applies, and an answer that tells no refusal is a count.
-- Assumes nothing.
use Rattle.std.specs.Prelude.{Result, Ok}
use Rattle.refusal.specs.declared.Refusal.{Refusal}
use Prim.Native.Nat.{ℕ, min}
use mathlib.Core.Path.{◌≡◌, sym, ◌∙◌}
use mathlib.Core.List.{List}
use lib.ListN.{length}
use Rattle.refusal.specs.Checks.{first}
use Rattle.refusal.proofs.Answers.{tells_amount_injective}
use Rattle.refusal.proofs.Passed.{told_passed}
use Rattle.identities.specs.Promises.{identity_checks}
use Rattle.curves.specs.declared.Plan.{Plan}
use Rattle.plans.specs.Promises.{plan_checks}
use Rattle.scripts.specs.Scripts.{script_for}
use Rattle.plays.specs.Promises.{play_checks, Plays}
use Rattle.plays.proofs.Answers.{same_checks}

pub play_accepted : {plan : Plan} {old new : List ℕ} {count : ℕ} {r : Result ℕ Refusal} → first (plan_checks plan) ≡ 0
    → first (identity_checks plan.chip old) ≡ 0 → Plays plan old count r new → r ≡ Ok (min count (length (script_for plan)))
play_accepted {plan} {old} {new} {count} {r} accepted confirmed p =
    let writes = min count (length (script_for plan)) in
    tells_amount_injective r (Ok writes)
    (p.answer ∙ sym (told_passed (play_checks plan old) writes (same_checks plan old count accepted ∙ confirmed)))
