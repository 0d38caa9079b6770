-- What a host engineer relies on, of a chip's state: calls in turn are a run, a read of a status register acknowledges and clears, a status bit stays on
-- until its register is read or the chip reset, and a chip without status registers carries the watch.
-- Assumes nothing.
use Rattle.std.specs.Prelude.{Option, Some, None}
use Prim.Native.Nat.{ℕ, ◌^◌, ◌<◌}
use native.Mathlib.Omega.{arith}
use mathlib.Core.Path.{◌≡◌, refl, sym, ap, ap₂, subst, ◌∙◌}
use mathlib.Core.Bool.{Bool, true, false, So, true≢false, cond, not, ◌&&◌}
use mathlib.Core.List.{List, [], ◌∷◌, ◌++◌}
use borrow.Author.Tests.{eqb-true, lt-ltb}
use lib.Bits.{bit_and, and_zero_l}
use lib.Dec.{eqb, ltb}
use lib.ListN.{length, get_or}
use lib.Seq.{get_or-set_same, get_or-set_other}
use Rattle.refusal.specs.Checks.{Check, first, left}
use Rattle.pages.specs.declared.Chip.{Chip}
use Rattle.pages.specs.declared.Chip.TheVariants.{Nct80}
use Rattle.pages.specs.Banks.{among}
use Rattle.pages.specs.Rows.{every}
use Rattle.pages.specs.Cards.{sheet_of, chip_of, when_known, row_of, is_status, power_on}
use Rattle.pages.proofs.Every.{both}
use Rattle.pages.proofs.Sound.{reporting, sound_sheet}
use Rattle.images.specs.Bytes.{position, written, seen}
use Rattle.images.specs.Promises.{image_checks}
use Rattle.images.proofs.Kept.{landed_keeps}
use Rattle.images.proofs.Landing.{lands_plain}
use Rattle.watch.specs.declared.Watch.{Watch}
use Rattle.watch.specs.Alarm.{fresh}
use Rattle.channels.specs.Channels.{State, is_on, sampled}
use Rattle.channels.specs.Promises.{channel_checks}
use Rattle.channels.proofs.Laws.{On, sampled_keeps}
use Rattle.states.specs.States.{after_read, after_reset}
use Rattle.states.specs.Promises.{left_of}
use Rattle.states.specs.Runs.{Event, sample, read, write, reset, unless_refused, after_write, after, run, Called, CalledInTurn}
use Rattle.states.proofs.Reading.{read_plain, read_status}

-- a state by its parts
of_parts : (state : State) {image : List ℕ} {watch : Watch} → image ≡ state.image → watch ≡ state.watch
    → ◌≡◌ {A = State} (record { image = image; watch = watch }) state
of_parts state e f = ap₂ (λ (l : List ℕ) (w : Watch). record { image = l; watch = w }) e f

-- what is left of the parts is left of the state
by_checks : (checks : List Check) (new old : State) {image : List ℕ} {watch : Watch} → image ≡ cond (eqb (first checks) 0) new.image old.image
    → watch ≡ cond (eqb (first checks) 0) new.watch old.watch → ◌≡◌ {A = State} (record { image = image; watch = watch }) (unless_refused checks new old)
by_checks checks new old = by_test (eqb (first checks) 0)
  where
    by_test : (b : Bool) {image : List ℕ} {watch : Watch} → image ≡ cond b new.image old.image → watch ≡ cond b new.watch old.watch
        → ◌≡◌ {A = State} (record { image = image; watch = watch }) (cond b new old)
    by_test true e f = of_parts new e f
    by_test false e f = of_parts old e f

-- a call does its event ..
called : (chip : ℕ) (old : State) (e : Event) (new : State) → Called chip old e new → new ≡ after chip old e
called chip old (sample steps words) new (r, (p, w)) =
    by_checks (channel_checks old.image steps) (sampled steps words old) old p.bytes (sym w ∙ ap (λ t. t.1) p.answer)
called chip old (read address) new (r, (p, w)) =
    by_checks (image_checks chip old.image) (left_of chip (λ c. after_read c address) old.image old.watch) old p.bytes
    (sym w ∙ ap (λ t. t.1.1) p.answer ∙ parts (eqb (first (image_checks chip old.image)) 0))
  where
    left_one : State
    left_one = left_of chip (λ c. after_read c address) old.image old.watch

    parts : (b : Bool) → (cond {A = ℕ × Watch} b (when_known (chip_of chip) (λ c. seen c address old.image) 0, left_one.watch) (0, old.watch)).1
        ≡ cond b left_one.watch old.watch
    parts true = refl
    parts false = refl
called chip old (write address byte) new (r, (p, w)) =
    by_checks (image_checks chip old.image) (left_of chip (λ c. after_write c address byte) old.image old.watch) old
    (p.bytes ∙ ap (λ (l : List ℕ). left (image_checks chip old.image) l old.image) (image_of (chip_of chip))) (sym w ∙ watch_of_is (chip_of chip) (eqb (first (image_checks chip old.image)) 0))
  where
    image_of : (n : Option Chip) → when_known n (λ c. written c address byte old.image) old.image ≡ (when_known n (λ c. after_write c address byte old) old).image
    image_of (Some c) = refl
    image_of None = refl

    watch_of_is : (n : Option Chip) (b : Bool) → old.watch ≡ cond b (when_known n (λ c. after_write c address byte old) old).watch old.watch
    watch_of_is (Some c) true = refl
    watch_of_is (Some c) false = refl
    watch_of_is None true = refl
    watch_of_is None false = refl
called chip old reset new (r, (p, w)) =
    by_checks (image_checks chip old.image) (left_of chip after_reset old.image old.watch) old p.bytes (sym w ∙ ap (λ t. t.1) p.answer)

-- .. and calls in turn the run: "A run of samples, reads and resets is the single steps in turn"
pub calls_run : (chip : ℕ) (old : State) (events : List Event) (new : State) → CalledInTurn chip old events new → new ≡ run chip old events
calls_run chip old [] new e = sym e
calls_run chip old (e ∷ es) new (middle, (c, more)) =
    calls_run chip middle es new more ∙ ap (λ (s : State). run chip s es) (called chip old e middle c)

-- wherever it is cut
pub run_append : (chip : ℕ) (state : State) (a b : List Event) → run chip state (a ++ b) ≡ run chip (run chip state a) b
run_append chip state [] b = refl
run_append chip state (e ∷ a) b = run_append chip (after chip state e) a b

-- "After a read of either register pending is off and hot as before", the register holds 0 and every other byte what it held
pub record Acknowledged (at : ℕ) (old new : State) : Type 0 where
  pub pending_off : new.watch.pending ≡ false
  pub hot_stays : new.watch.hot ≡ old.watch.hot
  pub behaviour_stays : new.watch.behaviour ≡ old.watch.behaviour
  pub cleared : at < length old.image → get_or new.image at 0 ≡ 0
  pub others_stay : (k : ℕ) → (k ≡ at → ⊥) → get_or new.image k 0 ≡ get_or old.image k 0

pub read_acknowledges : (chip : Chip) (address : ℕ) (state : State) → is_status chip (position chip state.image address) ≡ true
    → Acknowledged (position chip state.image address) state (after_read chip address state)
read_acknowledges chip address state e =
    let at = position chip state.image address in
    let s = read_status chip address state e in
    record {
      pending_off = ap (λ (n : State). n.watch.pending) s;
      hot_stays = ap (λ (n : State). n.watch.hot) s;
      behaviour_stays = ap (λ (n : State). n.watch.behaviour) s;
      cleared = λ h. ap (λ (n : State). get_or n.image at 0) s ∙ get_or-set_same state.image at 0 0 h;
      others_stay = λ k h. ap (λ (n : State). get_or n.image k 0) s ∙ get_or-set_other state.image at k 0 0 h;
    }

-- "Other chips carry it unchanged": of a chip without status registers no read changes anything, and a reset keeps the watch
pub carried : (chip : Chip) (address : ℕ) (state : State) → (sheet_of chip).status ≡ []
    → (after_read chip address state ≡ state) × ((after_reset chip state).watch ≡ state.watch)
unfolding is_status
carried chip address state e = (
  read_plain chip address state (ap (λ (l : List ℕ). among l (position chip state.image address)) e),
  ap (λ (l : List ℕ). cond (eqb (length l) 0) state.watch (fresh state.watch.behaviour)) e,
)

-- "Reset turns both facts off and keeps the behaviour"
pub reset_forgets : (state : State) → after_reset Nct80 state ≡ record { image = power_on Nct80; watch = fresh state.watch.behaviour }
unfolding sheet_of
reset_forgets state = refl

-- what is tested of a page's status registers holds of each
of_among : (test : ℕ → Bool) (l : List ℕ) (k : ℕ) → So (every test l) → among l k ≡ true → So (test k)
of_among test [] k t = λ e. absurd (true≢false (sym e))
of_among test (p ∷ ps) k t =
    let parts = both (test p) (every test ps) t in
    by_place (eqb k p) refl parts.0 (of_among test ps k parts.1)
  where
    by_place : (b : Bool) → eqb k p ≡ b → So (test p) → (among ps k ≡ true → So (test k)) → cond b true (among ps k) ≡ true → So (test k)
    by_place true e here later m = subst (λ (at : ℕ). So (test at)) (sym (eqb-true k p e)) here
    by_place false e here later m = later m

-- "An initialization (L6) keeps facts and status": no write changes a bit of a status register, and none has the watch
pub write_keeps_status : (chip : Chip) (address byte k bit : ℕ) (image : List ℕ) → is_status chip k ≡ true → bit < 2 ^ 8
    → bit_and (get_or (written chip address byte image) k 0) bit ≡ bit_and (get_or image k 0) bit
unfolding is_status row_of
write_keeps_status chip address byte k bit image e h =
    let closed = both (eqb (row_of chip k).writable 0) _ (of_among (reporting (sheet_of chip)) (sheet_of chip).status k (sound_sheet chip).status e) in
    landed_keeps chip (position chip image address) byte image k bit
    (shut (row_of chip k).writable (row_of chip k).clears (eqb-true (row_of chip k).writable 0 closed.0) (eqb-true (row_of chip k).clears 0 closed.1))
  where
    shut : (w c : ℕ) → w ≡ 0 → c ≡ 0 → So (ltb bit (2 ^ 8) && (eqb (bit_and w bit) 0 && eqb (bit_and c bit) 0))
    shut w c p q =
        ap₂ ◌&&◌ (lt-ltb bit (2 ^ 8) h)
        (ap₂ (λ (x y : ℕ). eqb (bit_and x bit) 0 && eqb (bit_and y bit) 0) p q ∙ ap₂ (λ (x y : ℕ). eqb x 0 && eqb y 0) (and_zero_l bit) (and_zero_l bit))

-- what leaves a status register of chip 3: anything but a read of it and a reset
abbrev pub Leaves : ℕ → Event → Type 0
Leaves register (sample steps words) = Unit {0}
Leaves register (read address) = address ≡ register → ⊥
Leaves register (write address byte) = Unit {0}
Leaves register reset = ⊥

abbrev pub AllLeave : ℕ → List Event → Type 0
AllLeave register [] = Unit {0}
AllLeave register (e ∷ es) = Leaves register e × AllLeave register es

module _ (register bit : ℕ) (status : is_status Nct80 register ≡ true) (small : bit < 2 ^ 8) where
  front : register < 0x06
  unfolding is_status sheet_of
  front = one_of (eqb register 0x01) (eqb register 0x02) refl refl status
    where
      one_of : (a b : Bool) → eqb register 0x01 ≡ a → eqb register 0x02 ≡ b → cond a true (cond b true false) ≡ true → register < 0x06
      one_of true b p q t = omega (arith, eqb-true register 0x01 p)
      one_of false true p q t = omega (arith, eqb-true register 0x02 q)
      one_of false false p q t = absurd (true≢false (sym t))

  unless : (checks : List Check) (new old : State) → On register bit old.image → On register bit new.image
      → On register bit (unless_refused checks new old).image
  unless checks new old o n = by_test (eqb (first checks) 0)
    where
      by_test : (b : Bool) → On register bit (cond b new old).image
      by_test true = n
      by_test false = o

  read_leaves : (address : ℕ) (state : State) → (address ≡ register → ⊥) → On register bit state.image
      → On register bit (after_read Nct80 address state).image
  unfolding sheet_of
  read_leaves address state h o = by_status (is_status Nct80 (position Nct80 state.image address)) refl
    where
      apart : register ≡ position Nct80 state.image address → ⊥
      apart e = h (sym (e ∙ lands_plain Nct80 state.image address refl))

      by_status : (b : Bool) → is_status Nct80 (position Nct80 state.image address) ≡ b → On register bit (after_read Nct80 address state).image
      by_status true e = ap (is_on bit) ((read_acknowledges Nct80 address state e).others_stay register apart) ∙ o
      by_status false e = ap (λ (s : State). is_on bit (get_or s.image register 0)) (read_plain Nct80 address state e) ∙ o

  step_leaves : (state : State) (e : Event) → Leaves register e → On register bit state.image → On register bit (after 3 state e).image
  unfolding sheet_of
  step_leaves state (sample steps words) l o =
      unless (channel_checks state.image steps) (sampled steps words state) state o (sampled_keeps register bit front steps words state o)
  step_leaves state (read address) l o =
      unless (image_checks 3 state.image) (after_read Nct80 address state) state o (read_leaves address state l o)
  step_leaves state (write address byte) l o =
      unless (image_checks 3 state.image) (after_write Nct80 address byte state) state o
      (ap (λ (n : ℕ). not (eqb n 0)) (write_keeps_status Nct80 address byte register bit state.image status small) ∙ o)
  step_leaves state reset l o = absurd l

  -- "a status bit stays on until its register is read (or reset)": over a run of any length, with writes in it
  pub status_stays : (state : State) (events : List Event) → AllLeave register events → On register bit state.image
      → On register bit (run 3 state events).image
  status_stays state [] l o = o
  status_stays state (e ∷ es) (l, ls) o = status_stays (after 3 state e) es ls (step_leaves state e l o)
