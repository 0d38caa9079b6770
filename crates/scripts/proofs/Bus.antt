-- A script on the bus and by position. Each write on the bus lands at the position of its register, whatever bank was selected at first, since a select
-- comes before it where its bank is another. And a select is a write that no other register sees, so that the others hold at every stop what the
-- writes by position alone leave there.
-- Assumes nothing.
use Prim.Native.Nat.{ℕ, zero, suc, ◌+◌, ◌/◌, ◌%◌, ◌^◌, ◌≤◌, ◌<◌}
use native.Mathlib.Nat.{mod-eq_of_lt}
use native.Mathlib.Omega.{arith}
use mathlib.Core.Path.{◌≡◌, refl, sym, ap, ap₂, subst, ◌∙◌}
use mathlib.Core.Bool.{Bool, true, false, So, cond, not, ◌&&◌, true≢false}
use mathlib.Core.List.{List, [], ◌∷◌, ◌++◌, map}
use borrow.Author.Tests.{eqb-true, eqb-false, not-true, eq-eqb}
use lib.Bits.{bit_and, and_le_r, and_zero_r}
use lib.Dec.{eqb, ltb}
use lib.ListN.{length, get_or, take, length-map}
use lib.Seq.{take_all}
use Rattle.pages.specs.declared.Chip.{Chip}
use Rattle.pages.specs.Banks.{Banks, stands_in, aside_in, no_bank, ready, selects_from}
use Rattle.pages.specs.Rows.{every, masks_in, positions}
use Rattle.pages.specs.Cards.{sheet_of, banks_of, row_of, size_of, table_of}
use Rattle.pages.proofs.Every.{both}
use Rattle.pages.proofs.Acting.{Taking, taking_facts, effects_quiet}
use Rattle.pages.proofs.Sound.{seen_at, reached, none_of, quiet, stands, taking, selecting, sound_sheet}
use Rattle.images.specs.Bytes.{selected, position, placed, landed, written}
use Rattle.images.proofs.Laws.{stored_at_length, stored_at_other, stored_at_under, stored_at_there}
use Rattle.images.proofs.Writes.{landed_alone, landed_length}
use Rattle.images.proofs.Landing.{lands, selects, stands_shared, shared_plain}
use Rattle.scripts.specs.Scripts.{Pair, routed_from, routed, addressed, bus}
use Rattle.scripts.specs.Played.{laid, played, stops, touched}
use Rattle.scripts.specs.Rules.{Outside}

pub played_length : (chip : Chip) (ws : List Pair) (image : List ℕ) → length (played chip ws image) ≡ length image
played_length chip [] image = refl
played_length chip (w ∷ ws) image =
    played_length chip ws (written chip w.0 w.1 image) ∙ landed_length chip (position chip image w.0) w.1 image

pub laid_append : (chip : Chip) (xs ys : List Pair) (image : List ℕ) → laid chip (xs ++ ys) image ≡ laid chip ys (laid chip xs image)
laid_append chip [] ys image = refl
laid_append chip (x ∷ xs) ys image = laid_append chip xs ys (placed chip x.0 x.1 image)

-- how many writes there are with the selects
pub routed_length : (banks : Banks) (bank : ℕ) (ws : List Pair)
    → length (routed_from banks bank ws) ≡ selects_from banks bank (map (λ w. w.0) ws) + length ws
routed_length banks bank [] = refl
routed_length banks bank (w ∷ ws) = by_ready (ready banks.bits bank w.0) (routed_length banks (w.0 / 256) ws)
  where
    by_ready : (r : Bool) → length (routed_from banks (w.0 / 256) ws) ≡ selects_from banks (w.0 / 256) (map (λ v. v.0) ws) + length ws
        → length (cond r (w ∷ routed_from banks (w.0 / 256) ws) ((banks.select, w.0 / 256) ∷ (w ∷ routed_from banks (w.0 / 256) ws)))
        ≡ (cond r 0 1 + selects_from banks (w.0 / 256) (map (λ v. v.0) ws)) + suc (length ws)
    by_ready true e = omega (arith, e)
    by_ready false e = omega (arith, e)

-- the bus carries as many
pub bus_length : (chip : Chip) (ws : List Pair) → length (bus chip ws) ≡ selects_from (banks_of chip) no_bank (map (λ w. w.0) ws) + length ws
unfolding bus routed
bus_length chip ws = length-map (routed_from (banks_of chip) no_bank ws) addressed ∙ routed_length (banks_of chip) no_bank ws

-- what is not ready has banks
pub has_banks : (bits bank p : ℕ) → ready bits bank p ≡ false → eqb bits 0 ≡ false
has_banks bits bank p r = by_bits (eqb bits 0) refl r
  where
    by_bits : (one : Bool) → eqb bits 0 ≡ one → cond one true (eqb bank (p / 256)) ≡ false → eqb bits 0 ≡ false
    by_bits true e s = absurd (true≢false s)
    by_bits false e s = e

-- writes to registers that stand where the bus reaches them
abbrev pub Standing : Chip → List Pair → Type 0
Standing chip [] = Unit {0}
Standing chip (w ∷ ws) = So (stands (sheet_of chip) w.0) × Standing chip ws

pub standing_append : (chip : Chip) (xs ys : List Pair) → Standing chip xs → Standing chip ys → Standing chip (xs ++ ys)
standing_append chip [] ys h k = k
standing_append chip (x ∷ xs) ys h k = (h.0, standing_append chip xs ys h.1 k)

none_outside : (p : ℕ) (others : List ℕ) → So (none_of others p) → Outside p others
none_outside p [] t = tt
none_outside p (q ∷ qs) t =
    let parts = both (not (eqb q p)) (none_of qs p) t in
    (eqb-false q p (not-true (eqb q p) parts.0), none_outside p qs parts.1)

-- what the test says of such a register
module _ (chip : Chip) (p : ℕ) (t : So (stands (sheet_of chip) p)) where
  within : So (reached (banks_of chip) p) × So (none_of (aside_in (banks_of chip)) p && quiet (sheet_of chip) p)
  within = both (reached (banks_of chip) p) _ (both (ltb p (size_of chip)) _ t).1

  aside : So (none_of (aside_in (banks_of chip)) p) × So (quiet (sheet_of chip) p)
  aside = both (none_of (aside_in (banks_of chip)) p) _ within.1

  parts : So (seen_at (banks_of chip) p) × So (eqb (bit_and (p / 256) (banks_of chip).bits) (p / 256))
  parts = both (seen_at (banks_of chip) p) _ within.0

  -- it is its address in its bank
  at_home : stands_in (banks_of chip) (p / 256) (p % 256) ≡ p
  at_home = eqb-true (stands_in (banks_of chip) (p / 256) (p % 256)) p parts.0

  -- the bank's bits can say its bank
  sayable : bit_and (p / 256) (banks_of chip).bits ≡ p / 256
  sayable = eqb-true (bit_and (p / 256) (banks_of chip).bits) (p / 256) parts.1

  bank_byte : p / 256 < 2 ^ 8
  bank_byte = omega (arith, sayable, and_le_r (p / 256) (banks_of chip).bits, (sound_sheet chip).bits)

  -- and it selects no bank
  pub beside : Outside p (aside_in (banks_of chip))
  beside = none_outside p (aside_in (banks_of chip)) aside.0

  -- a write on the bus lands there while its bank is selected, and touches nothing else
  lands_there : (byte : ℕ) (image : List ℕ) → selected chip image ≡ p / 256 → written chip (p % 256) byte image ≡ placed chip p byte image
  lands_there byte image e =
      ap (λ (at : ℕ). landed chip at byte image)
      (lands chip image (p % 256) ∙ ap (λ (bank : ℕ). stands_in (banks_of chip) bank (p % 256)) e ∙ at_home)
      ∙ landed_alone chip p byte image (effects_quiet chip p aside.1)

  -- with one bank only, that is always so
  only_bank : (image : List ℕ) → eqb (banks_of chip).bits 0 ≡ true → selected chip image ≡ p / 256
  only_bank image e =
      let none = eqb-true (banks_of chip).bits 0 e in
      selects chip image
      ∙ ap (bit_and (get_or image (banks_of chip).select 0)) none
      ∙ and_zero_r (get_or image (banks_of chip).select 0)
      ∙ sym (sym sayable ∙ ap (bit_and (p / 256)) none ∙ and_zero_r (p / 256))

  -- it keeps the bank that is selected
  selected_kept : (byte : ℕ) (image : List ℕ) → selected chip (placed chip p byte image) ≡ selected chip image
  selected_kept byte image = by_bits (eqb (banks_of chip).bits 0) refl
    where
      by_bits : (one : Bool) → eqb (banks_of chip).bits 0 ≡ one → selected chip (placed chip p byte image) ≡ selected chip image
      by_bits true e = only_bank (placed chip p byte image) e ∙ sym (only_bank image e)
      by_bits false e =
          let apart : Outside p ((banks_of chip).select ∷ []) = subst (λ (one : Bool). Outside p (cond one [] ((banks_of chip).select ∷ []))) e beside in
          selects chip (placed chip p byte image)
          ∙ ap (λ (b : ℕ). bit_and b (banks_of chip).bits) (stored_at_other (masks_in (row_of chip p)) p byte image (banks_of chip).select apart.0)
          ∙ sym (selects chip image)

-- a select, of a chip that has banks
module _ (chip : Chip) (some : eqb (banks_of chip).bits 0 ≡ false) where
  abbrev select : ℕ
  select = (banks_of chip).select

  tested : So (taking (sheet_of chip) (banks_of chip).bits select) × So (quiet (sheet_of chip) select)
  tested =
      both (taking (sheet_of chip) (banks_of chip).bits select) _
      (both (selecting (sheet_of chip) select) _
      (subst (λ (one : Bool). So (every (selecting (sheet_of chip)) (cond one [] (select ∷ [])))) some (sound_sheet chip).selects)).0

  facts : Taking chip (banks_of chip).bits select
  facts = taking_facts chip (banks_of chip).bits select tested.0

  -- it lands at the bank select register whichever bank is selected, and touches nothing else ..
  select_lands : (bank : ℕ) (image : List ℕ) → written chip (select % 256) bank image ≡ placed chip select bank image
  select_lands bank image =
      ap (λ (address : ℕ). written chip address bank image) (mod-eq_of_lt facts.address)
      ∙ ap (λ (at : ℕ). landed chip at bank image)
      (lands chip image select ∙ stands_shared (banks_of chip) (selected chip image) select facts.shared)
      ∙ landed_alone chip select bank image (effects_quiet chip select tested.1)

  -- .. and selects
  select_selects : (bank : ℕ) (image : List ℕ) → bank < 2 ^ 8 → length image ≡ size_of chip → bit_and bank (banks_of chip).bits ≡ bank
      → selected chip (placed chip select bank image) ≡ bank
  select_selects bank image byte long e =
      selects chip (placed chip select bank image)
      ∙ stored_at_under (masks_in (row_of chip select)) select bank image (banks_of chip).bits facts.takes byte (omega (arith, long, facts.inside))
      ∙ e

module _ (chip : Chip) where
  -- writes on the bus that do, one by one, what writes by position do
  data Follows : List ℕ → List Pair → List Pair → Type 0 where
    done : {m : List ℕ} → Follows m [] []
    wrote : {m : List ℕ} {w : Pair} {ws : List Pair} {a : Pair} {vs : List Pair} → written chip w.0 w.1 m ≡ placed chip a.0 a.1 m
        → Follows (placed chip a.0 a.1 m) ws vs → Follows m (w ∷ ws) (a ∷ vs)

  follows_cut : {m : List ℕ} {ws vs : List Pair} → Follows m ws vs → (k : ℕ) → played chip (take k ws) m ≡ laid chip (take k vs) m
  follows_cut done zero = refl
  follows_cut done (suc k) = refl
  follows_cut (wrote e f) zero = refl
  follows_cut (wrote {ws = ws} e f) (suc k) = ap (played chip (take k ws)) e ∙ follows_cut f k

  -- the bank that the list has selected is the image's
  abbrev Current : ℕ → List ℕ → Type 0
  Current bank image = bank < 2 ^ 8 → selected chip image ≡ bank

  ready_there : (p bank : ℕ) (image : List ℕ) → So (stands (sheet_of chip) p) → Current bank image → ready (banks_of chip).bits bank p ≡ true
      → selected chip image ≡ p / 256
  ready_there p bank image t now r = by_bits (eqb (banks_of chip).bits 0) refl r
    where
      by_bits : (one : Bool) → eqb (banks_of chip).bits 0 ≡ one → cond one true (eqb bank (p / 256)) ≡ true → selected chip image ≡ p / 256
      by_bits true e s = only_bank chip p t image e
      by_bits false e s =
          let same = eqb-true bank (p / 256) s in
          now (omega (arith, same, bank_byte chip p t)) ∙ same

  follows : (ws : List Pair) (bank : ℕ) (image : List ℕ) → Standing chip ws → length image ≡ size_of chip → Current bank image
      → Follows image (map addressed (routed_from (banks_of chip) bank ws)) (routed_from (banks_of chip) bank ws)
  follows [] bank image h l now = done
  follows (w ∷ ws) bank image h l now =
      by_ready (ready (banks_of chip).bits bank w.0) refl (λ m long current. follows ws (w.0 / 256) m h.1 long current)
    where
      rest : List Pair
      rest = routed_from (banks_of chip) (w.0 / 256) ws

      -- behind the write of the register
      behind : (m : List ℕ) → length m ≡ size_of chip → selected chip m ≡ w.0 / 256
          → ((m : List ℕ) → length m ≡ size_of chip → Current (w.0 / 256) m → Follows m (map addressed rest) rest)
          → Follows m (map addressed (w ∷ rest)) (w ∷ rest)
      behind m long e f =
          wrote (lands_there chip w.0 h.0 w.1 m e)
          (f (placed chip w.0 w.1 m) (stored_at_length (masks_in (row_of chip w.0)) w.0 w.1 m ∙ long)
          (λ small. selected_kept chip w.0 h.0 w.1 m ∙ e))

      by_ready : (r : Bool) → ready (banks_of chip).bits bank w.0 ≡ r
          → ((m : List ℕ) → length m ≡ size_of chip → Current (w.0 / 256) m → Follows m (map addressed rest) rest)
          → Follows image (map addressed (cond r (w ∷ rest) (((banks_of chip).select, w.0 / 256) ∷ (w ∷ rest))))
          (cond r (w ∷ rest) (((banks_of chip).select, w.0 / 256) ∷ (w ∷ rest)))
      by_ready true e f = behind image l (ready_there w.0 bank image h.0 now e) f
      by_ready false e f =
          let some = has_banks (banks_of chip).bits bank w.0 e in
          let at = (banks_of chip).select in
          wrote (select_lands chip some (w.0 / 256) image)
          (behind (placed chip at (w.0 / 256) image) (stored_at_length (masks_in (row_of chip at)) at (w.0 / 256) image ∙ l)
          (select_selects chip some (w.0 / 256) image (bank_byte chip w.0 h.0) l (sayable chip w.0 h.0)) f)

  -- some number of writes on the bus is as many by position, selects among them, whatever bank is selected at first
  pub bus_cut : (ws : List Pair) (image : List ℕ) → Standing chip ws → length image ≡ size_of chip → (k : ℕ)
      → played chip (take k (bus chip ws)) image ≡ laid chip (take k (routed chip ws)) image
  unfolding bus routed
  bus_cut ws image h l k = follows_cut (follows ws no_bank image h l (λ small. absurd (omega (arith, small)))) k

-- two images that agree but for what a select changes
pub record Same (chip : Chip) (x y : List ℕ) : Type 0 where
  pub long : length x ≡ length y
  pub bytes : (q : ℕ) → Outside q (aside_in (banks_of chip)) → get_or x q 0 ≡ get_or y q 0

pub same_refl : (chip : Chip) (x : List ℕ) → Same chip x x
same_refl chip x = record { long = refl; bytes = λ q o. refl }

-- a write to a register does the same to both
placed_same : (chip : Chip) (p byte : ℕ) (x y : List ℕ) → Outside p (aside_in (banks_of chip)) → Same chip x y
    → Same chip (placed chip p byte x) (placed chip p byte y)
placed_same chip p byte x y off s =
    record {
      long = stored_at_length (masks_in (row_of chip p)) p byte x ∙ s.long ∙ sym (stored_at_length (masks_in (row_of chip p)) p byte y);
      bytes = λ q o. at_each q o (eqb q p) refl;
    }
  where
    at_each : (q : ℕ) → Outside q (aside_in (banks_of chip)) → (there : Bool) → eqb q p ≡ there → get_or (placed chip p byte x) q 0 ≡ get_or (placed chip p byte y) q 0
    at_each q o true t =
        let same = eqb-true q p t in
        ap (λ (k : ℕ). get_or (placed chip p byte x) k 0) same
        ∙ stored_at_there (masks_in (row_of chip p)) p byte x y s.long (s.bytes p off)
        ∙ sym (ap (λ (k : ℕ). get_or (placed chip p byte y) k 0) same)
    at_each q o false t =
        let other = eqb-false q p t in
        stored_at_other (masks_in (row_of chip p)) p byte x q other ∙ s.bytes q o ∙ sym (stored_at_other (masks_in (row_of chip p)) p byte y q other)

-- and a select changes neither
select_same : (chip : Chip) (bank : ℕ) (x y : List ℕ) → eqb (banks_of chip).bits 0 ≡ false → Same chip x y
    → Same chip (placed chip (banks_of chip).select bank x) y
select_same chip bank x y some s =
    let at = (banks_of chip).select in
    record {
      long = stored_at_length (masks_in (row_of chip at)) at bank x ∙ s.long;
      bytes = λ q o.
          let apart : Outside q (at ∷ []) = subst (λ (one : Bool). Outside q (cond one [] (at ∷ []))) some o in
          stored_at_other (masks_in (row_of chip at)) at bank x q (λ e. apart.0 (sym e)) ∙ s.bytes q o;
    }

module _ (chip : Chip) where
  -- with the selects left out, some number of the writes leaves the same
  routed_cut : (ws : List Pair) (bank : ℕ) → Standing chip ws → (k : ℕ) (x y : List ℕ) → Same chip x y
      → (j : ℕ) × Same chip (laid chip (take k (routed_from (banks_of chip) bank ws)) x) (laid chip (take j ws) y)
  routed_cut [] bank h zero x y s = (0, s)
  routed_cut [] bank h (suc k) x y s = (0, s)
  routed_cut (w ∷ ws) bank h k x y s =
      by_ready (ready (banks_of chip).bits bank w.0) refl (λ n u v e. routed_cut ws (w.0 / 256) h.1 n u v e) k
    where
      rest : List Pair
      rest = routed_from (banks_of chip) (w.0 / 256) ws

      one_more : (n : ℕ) (u : List ℕ) → Same chip u y
          → ((n : ℕ) (u v : List ℕ) → Same chip u v → (j : ℕ) × Same chip (laid chip (take n rest) u) (laid chip (take j ws) v))
          → (j : ℕ) × Same chip (laid chip (take (suc n) (w ∷ rest)) u) (laid chip (take j (w ∷ ws)) y)
      one_more n u e f =
          let r = f n (placed chip w.0 w.1 u) (placed chip w.0 w.1 y) (placed_same chip w.0 w.1 u y (beside chip w.0 h.0) e) in
          (suc r.0, r.1)

      by_ready : (r : Bool) → ready (banks_of chip).bits bank w.0 ≡ r
          → ((n : ℕ) (u v : List ℕ) → Same chip u v → (j : ℕ) × Same chip (laid chip (take n rest) u) (laid chip (take j ws) v))
          → (n : ℕ)
          → (j : ℕ) × Same chip (laid chip (take n (cond r (w ∷ rest) (((banks_of chip).select, w.0 / 256) ∷ (w ∷ rest)))) x) (laid chip (take j (w ∷ ws)) y)
      by_ready true e f zero = (0, s)
      by_ready true e f (suc n) = one_more n x s f
      by_ready false e f zero = (0, s)
      by_ready false e f (suc zero) = (0, select_same chip (w.0 / 256) x y (has_banks (banks_of chip).bits bank w.0 e) s)
      by_ready false e f (suc (suc n)) =
          one_more n (placed chip (banks_of chip).select (w.0 / 256) x) (select_same chip (w.0 / 256) x y (has_banks (banks_of chip).bits bank w.0 e) s) f

  routed_all : (ws : List Pair) (bank : ℕ) → Standing chip ws → (x y : List ℕ) → Same chip x y
      → Same chip (laid chip (routed_from (banks_of chip) bank ws) x) (laid chip ws y)
  routed_all [] bank h x y s = s
  routed_all (w ∷ ws) bank h x y s =
      by_ready (ready (banks_of chip).bits bank w.0) refl (λ u v e. routed_all ws (w.0 / 256) h.1 u v e)
    where
      rest : List Pair
      rest = routed_from (banks_of chip) (w.0 / 256) ws

      by_ready : (r : Bool) → ready (banks_of chip).bits bank w.0 ≡ r
          → ((u v : List ℕ) → Same chip u v → Same chip (laid chip rest u) (laid chip ws v))
          → Same chip (laid chip (cond r (w ∷ rest) (((banks_of chip).select, w.0 / 256) ∷ (w ∷ rest))) x) (laid chip (w ∷ ws) y)
      by_ready true e f =
          f (placed chip w.0 w.1 x) (placed chip w.0 w.1 y) (placed_same chip w.0 w.1 x y (beside chip w.0 h.0) s)
      by_ready false e f =
          let u = placed chip (banks_of chip).select (w.0 / 256) x in
          f (placed chip w.0 w.1 u) (placed chip w.0 w.1 y)
          (placed_same chip w.0 w.1 u y (beside chip w.0 h.0) (select_same chip (w.0 / 256) x y (has_banks (banks_of chip).bits bank w.0 e) s))

  -- played to its end, a script leaves what its writes by position leave ..
  pub bus_plays : (ws : List Pair) → Standing chip ws → (image : List ℕ) → length image ≡ size_of chip → (k : ℕ) → length (bus chip ws) ≤ k
      → Same chip (played chip (take k (bus chip ws)) image) (laid chip ws image)
  unfolding bus routed
  bus_plays ws h image l k e =
      let all : length (routed_from (banks_of chip) no_bank ws) ≤ k = omega (arith, e, length-map (routed_from (banks_of chip) no_bank ws) addressed) in
      subst (λ (m : List ℕ). Same chip m (laid chip ws image))
      (sym (bus_cut chip ws image h l k ∙ ap (λ (vs : List Pair). laid chip vs image) (take_all k (routed_from (banks_of chip) no_bank ws) all)))
      (routed_all ws no_bank h image image (same_refl chip image))

  -- .. and so at every stop, for some number of them
  pub bus_stops : (ws : List Pair) → Standing chip ws → (cuts : List ℕ) (x y : List ℕ) → length x ≡ size_of chip → Same chip x y
      → (js : List ℕ) × Same chip (stops (played chip) (bus chip ws) x cuts) (stops (laid chip) ws y js)
  unfolding routed
  bus_stops ws h [] x y l s = ([], s)
  bus_stops ws h (k ∷ ks) x y l s =
      let r = routed_cut ws no_bank h k x y s in
      let next = bus_stops ws h ks (played chip (take k (bus chip ws)) x) (laid chip (take r.0 ws) y) (played_length chip (take k (bus chip ws)) x ∙ l)
      (subst (λ (m : List ℕ). Same chip m (laid chip (take r.0 ws) y)) (sym (bus_cut chip ws x h l k)) r.1) in
      (r.0 ∷ next.0, next.1)

-- with one bank only nothing comes between the writes, and each address is its position
module _ (chip : Chip) (one : (banks_of chip).bits ≡ 0) where
  plain_from : (ws : List Pair) (bank : ℕ) → Standing chip ws → map addressed (routed_from (banks_of chip) bank ws) ≡ ws
  plain_from [] bank h = refl
  plain_from (w ∷ ws) bank h =
      let same : w.0 % 256 ≡ w.0 =
      sym (stands_shared (banks_of chip) (w.0 / 256) (w.0 % 256) (shared_plain (banks_of chip) (w.0 % 256) one)) ∙ at_home chip w.0 h.0 in
      let rest = routed_from (banks_of chip) (w.0 / 256) ws in
      ap (λ (none : Bool). map addressed (cond (cond none true (eqb bank (w.0 / 256))) (w ∷ rest) (((banks_of chip).select, w.0 / 256) ∷ (w ∷ rest))))
      (eq-eqb (banks_of chip).bits 0 one)
      ∙ ap₂ (λ (address : ℕ) (vs : List Pair). (address, w.1) ∷ vs) same (plain_from ws (w.0 / 256) h.1)

  pub bus_plain : (ws : List Pair) → Standing chip ws → bus chip ws ≡ ws
  unfolding bus routed
  bus_plain ws h = plain_from ws no_bank h

  -- and a play touches the fan table alone
  pub touched_plain : (table : ℕ) → touched chip table ≡ positions (table_of chip table)
  touched_plain table =
      ap (λ (none : Bool). cond none [] ((banks_of chip).select ∷ []) ++ positions (table_of chip table)) (eq-eqb (banks_of chip).bits 0 one)
