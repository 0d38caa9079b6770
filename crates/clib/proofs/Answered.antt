-- What demand 1 says of an answer follows from how a contract says it: by `told_or` and `left` of the call's checks, and by what is packed of it.
-- Assumes nothing.
use Rattle.std.specs.Prelude.{Result, ⊤}
use Rattle.refusal.specs.declared.Refusal.{Refusal}
use Prim.Native.Nat.{ℕ, ◌<◌}
use native.Mathlib.Omega.{arith}
use mathlib.Core.Path.{◌≡◌, refl, ap, ◌∙◌}
use mathlib.Core.Bool.{Bool, So}
use mathlib.Core.List.{List, []}
use borrow.Author.Tests.{ne_eqb}
use Rattle.refusal.specs.Answers.{tells, tells_amount}
use Rattle.refusal.specs.Checks.{Check, first, told_or, told, left}
use Rattle.refusal.proofs.Passed.{none_told, all_left}
use Rattle.translation.proofs.Bound.{below, first_below}
use Rattle.curves.specs.declared.Plan.{Plan}
use Rattle.records.specs.declared.Found.{Found}
use Rattle.records.specs.Records.{no_plan}
use Rattle.clib.specs.Packed.{packed, packs_found}
use Rattle.clib.specs.Demands.{Answered, Kept, verdict, tells_found, unpacked}

pub told_answered : {A : Type 0} (none value : A) (checks : List Check) {told : ℕ × A} → told ≡ told_or none checks value → Answered checks none told
told_answered {A} none value checks e =
    let number = ap (λ (t : ℕ × A). t.0) e in
    record { number = number; zero = λ some. ap (λ (t : ℕ × A). t.1) e ∙ none_told none value checks (λ z. some (number ∙ z)) }

pub left_kept : (checks : List Check) (held : List ℕ) {number : ℕ} {old new : List ℕ} → number ≡ first checks → new ≡ left checks held old → Kept number old new
left_kept checks held {old = old} e l = λ some. l ∙ all_left held old checks (λ z. some (e ∙ z))

-- any values, and a lent buffer
pub with_buffer : {A : Type 0} (none : A) (checks : List Check) (value : A) (held : List ℕ) {told : ℕ × A} {old new : List ℕ} → told ≡ told_or none checks value
    → new ≡ left checks held old → Answered checks none told × Kept told.0 old new
with_buffer none checks value held e l =
    let A = told_answered none value checks e in
    (A, left_kept checks held A.number l)

-- a call that has no check tells no number
pub never_refused : {A : Type 0} (none value : A) → Answered [] none (0, value)
never_refused none value = record { number = refl; zero = λ some. absurd (some refl) }

-- a verdict; a count, and the buffer that was lent for what is counted
pub verdict_answered : (r : Result ⊤ Refusal) (checks : List Check) → tells r ≡ first checks → Answered checks tt (verdict r)
verdict_answered r checks e = record { number = e; zero = λ some. refl }

pub count_answered : (r : Result ℕ Refusal) (checks : List Check) (value : ℕ) (held : List ℕ) {old new : List ℕ} → tells_amount r ≡ told checks value → new ≡ left checks held old
    → Answered checks 0 (tells_amount r) × Kept (tells_amount r).0 old new
count_answered r checks value held e l = with_buffer 0 checks value held e l

pub found_answered : (checks : List Check) (count : ℕ) (plan : Plan) (r : Found) → tells_amount r.answer ≡ told_or 0 checks count
    → r.plan ≡ (told_or no_plan checks plan).1 → Answered checks (0, no_plan) (tells_found r)
found_answered checks count plan r e p =
    let A = told_answered 0 count checks e in
    record {
      number = A.number;
      zero = λ some i. (A.zero some i, (p ∙ none_told no_plan plan checks (λ z. some (A.number ∙ z))) i);
    }

-- each number of a list fits a byte
abbrev pub small : List Check → Bool
small checks = below 256 checks

-- so what crosses tells the same
pub crossing : (n value r : ℕ) → n < 256 → r ≡ packed n value → unpacked r ≡ (n, value)
crossing n value r h e = λ i. (refusal i, rest i)
  where
    refusal : (unpacked r).0 ≡ n
    refusal = omega arith

    rest : (unpacked r).1 ≡ value
    rest = omega arith

pub packed_answered : {A : Type 0} (value : A → ℕ) (checks : List Check) (none : A) (told : ℕ × A) {r : ℕ} → So (small checks)
    → Answered checks none told → r ≡ packed told.0 (value told.1) → Answered checks (value none) (unpacked r)
packed_answered value checks none told {r} t A e =
    let parts = crossing told.0 (value told.1) r (rw A.number (first_below 256 checks t)) e in
    let number = ap (λ (p : ℕ × ℕ). p.0) parts in
    record {
      number = number ∙ A.number;
      zero = λ some. ap (λ (p : ℕ × ℕ). p.1) parts ∙ ap value (A.zero (λ z. some (number ∙ z)));
    }

-- a lent buffer is kept by the number that crossed where it is kept by the library's
pub packed_kept : (checks : List Check) (n value r : ℕ) {old new : List ℕ} → So (small checks) → n ≡ first checks → r ≡ packed n value
    → Kept n old new → Kept (unpacked r).0 old new
packed_kept checks n value r t number e k =
    let parts = crossing n value r (rw number (first_below 256 checks t)) e in
    λ some. k (λ z. some (ap (λ (p : ℕ × ℕ). p.0) parts ∙ z))

-- both, of a call that answers a verdict and of one that counts
pub packed_verdict : (a : Result ⊤ Refusal) (checks : List Check) (r : ℕ) (held : List ℕ) {old new : List ℕ} → So (small checks) → tells a ≡ first checks
    → new ≡ left checks held old → r ≡ packed (tells a) 0 → Answered checks 0 (unpacked r) × Kept (unpacked r).0 old new
packed_verdict a checks r held t e l p = (
  packed_answered (λ none. 0) checks tt (verdict a) t (verdict_answered a checks e) p,
  packed_kept checks (tells a) 0 r t e p (left_kept checks held e l),
)

pub packed_count : (a : Result ℕ Refusal) (checks : List Check) (value r : ℕ) (held : List ℕ) {old new : List ℕ} → So (small checks) → tells_amount a ≡ told checks value
    → new ≡ left checks held old → r ≡ packed (tells_amount a).0 (tells_amount a).1 → Answered checks 0 (unpacked r) × Kept (unpacked r).0 old new
packed_count a checks value r held t e l p =
    let C = count_answered a checks value held e l in (
      packed_answered (λ n. n) checks 0 (tells_amount a) t C.0 p,
      packed_kept checks (tells_amount a).0 (tells_amount a).1 r t C.0.number p C.1,
    )

-- and of one that answers any values, of which one number is made
pub packed_buffer : {A : Type 0} (number : A → ℕ) (checks : List Check) (none value : A) (held : List ℕ) {told : ℕ × A} {r : ℕ} {old new : List ℕ} → So (small checks)
    → told ≡ told_or none checks value → new ≡ left checks held old → r ≡ packed told.0 (number told.1)
    → Answered checks (number none) (unpacked r) × Kept (unpacked r).0 old new
packed_buffer number checks none value held {told} {r} t e l p =
    let B = with_buffer none checks value held e l in (
      packed_answered number checks none told t B.0 p,
      packed_kept checks told.0 (number told.1) r t B.0.number p B.1,
    )

-- the bytes used, the chip and the table of a record that is refused are 0
pub used_answered : (checks : List Check) (f : Found) (r : ℕ) → So (small checks) → (tells_amount f.answer).0 ≡ first checks → r ≡ packs_found f
    → Answered checks 0 (unpacked r)
used_answered checks f r t number e =
    let parts = crossing (tells_amount f.answer).0 _ r (rw number (first_below 256 checks t)) e in
    let same = ap (λ (p : ℕ × ℕ). p.0) parts in
    record {
      number = same ∙ number;
      zero = λ some. ap (λ (p : ℕ × ℕ). p.1) parts ∙ (rw (ne_eqb (tells_amount f.answer).0 0 (λ z. some (same ∙ z))));
    }
