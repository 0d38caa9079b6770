-- The contracts of the parts of `translation`: each adds a text to an output. What lies past its buffer's end is only counted.
-- Assumes nothing.
use Rattle.std.specs.Prelude.{ℕ, ◌+◌, ◌≤◌, ◌≡◌, List, length, map, get_or}
use Rattle.std.proofs.lemmas.List.Edits.{sets}
use Rattle.refusal.specs.Checks.{first}
use Rattle.pages.specs.Sheets.{most_writes}
use Rattle.curves.specs.declared.Plan.{Plan}
use Rattle.plans.specs.Promises.{plan_checks}
use Rattle.scripts.specs.Scripts.{Pair, script_for}
use Rattle.translation.specs.declared.output.Output.{Output}

-- lengths stay far below what a number can hold
abbrev pub InRange : List ℕ → Output → Type 0
InRange text before = before.length + length text ≤ 65536

-- the text stands behind what was there, as far as the buffer reaches
pub record Adds (text : List ℕ) (before after : Output) : Type 0 where
  pub same : after.buffer.ghost_name ≡ before.buffer.ghost_name
  pub next : after.length ≡ before.length + length text
  pub bytes : after.buffer.now ≡ sets before.buffer.now before.length text

-- the writes whose address and byte stand in each array of two
abbrev pub writes_of : List (List ℕ) → List Pair
writes_of script = map (λ w. (get_or w 0 0, get_or w 1 0)) script

-- no check refuses the plan, and its script has no more writes than any
pub record Printable (plan : Plan) : Type 0 where
  pub checks : first (plan_checks plan) ≡ 0
  pub writes : length (script_for plan) ≤ most_writes
