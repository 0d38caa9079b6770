-- No second answer of a sample of the chip meets its contract, and no other bytes.
-- Assumes nothing.
use Rattle.std.specs.Prelude.{Result}
use Prim.Native.Nat.{ℕ}
use mathlib.Core.Path.{◌≡◌, sym, ◌∙◌}
use mathlib.Core.List.{List}
use lib.IntN.{ℤ}
use Rattle.watch.specs.declared.Watch.{Watch}
use Rattle.watch.specs.declared.Refused.{Refused}
use Rattle.watch.proofs.Unique.{tells_injective}
use Rattle.channels.specs.Promises.{SamplesChannels}

pub samples_channels_unique : {old : List ℕ} {watch : Watch} {steps : ℤ} {words : List ℕ} {r s : Result Watch Refused} {l m : List ℕ}
    → SamplesChannels old watch steps words r l → SamplesChannels old watch steps words s m → (r ≡ s) × (l ≡ m)
samples_channels_unique {r = r} {s = s} p q = (tells_injective r s (p.answer ∙ sym q.answer), p.bytes ∙ sym q.bytes)
