-- Where an access lands, by the chip's banks. What lies above goes by these laws, or by positions: no other file opens `position` or `selected`.
-- Assumes nothing.
use Prim.Native.Nat.{ℕ, ◌+◌, ◌*◌, ◌≤◌}
use native.Mathlib.Omega.{arith}
use mathlib.Core.Path.{◌≡◌, refl, sym, ap, ◌∙◌}
use mathlib.Core.Bool.{Bool, true, false, cond, true≢false}
use mathlib.Core.List.{List}
use mathlib.Core.Logic.{inl, inr}
use borrow.Author.Tests.{eq-eqb, eqb-true}
use lib.Bits.{bit_and, and_zero_r}
use lib.Dec.{eqb}
use lib.ListN.{length, get_or, get_or-eq_default}
use lib.Seq.{set_out}
use Rattle.pages.specs.declared.Chip.{Chip}
use Rattle.pages.specs.declared.Register.{Register}
use Rattle.pages.specs.declared.Selector.{Selector}
use Rattle.pages.specs.Banks.{Banks, among, shared_in, stands_in}
use Rattle.pages.specs.Sheets.{selector_in}
use Rattle.pages.specs.Rows.{no_effects}
use Rattle.pages.specs.Cards.{sheet_of, banks_of, effects_of}
use Rattle.pages.proofs.Acting.{Known, effects_known}
use Rattle.pages.proofs.Selectors.{selector_bits, selector_register}
use Rattle.images.specs.Bytes.{stored_at, selected, position, written, seen}
use Rattle.images.proofs.Writes.{landed_alone}

-- an access lands where its address stands in the bank that is selected
pub lands : (chip : Chip) (image : List ℕ) (address : ℕ) → position chip image address ≡ stands_in (banks_of chip) (selected chip image) address
unfolding position
lands chip image address = refl

-- which the bank's bits of the bank select register say
pub selects : (chip : Chip) (image : List ℕ) → selected chip image ≡ bit_and (get_or image (banks_of chip).select 0) (banks_of chip).bits
unfolding selected
selects chip image = refl

-- an address that is seen in every bank is its own position ..
pub stands_shared : (banks : Banks) (bank address : ℕ) → shared_in banks address ≡ true → stands_in banks bank address ≡ address
stands_shared banks bank address e = ap (λ (s : Bool). cond s address (bank * 256 + address)) e

-- .. any other stands in its bank's page ..
pub stands_banked : (banks : Banks) (bank address : ℕ) → shared_in banks address ≡ false → stands_in banks bank address ≡ bank * 256 + address
stands_banked banks bank address e = ap (λ (s : Bool). cond s address (bank * 256 + address)) e

-- .. and where there is one bank only, every address is seen in it
pub shared_plain : (banks : Banks) (address : ℕ) → banks.bits ≡ 0 → shared_in banks address ≡ true
shared_plain banks address e = ap (λ (b : Bool). cond b true (among banks.shared address)) (eq-eqb banks.bits 0 e)

pub lands_plain : (chip : Chip) (image : List ℕ) (address : ℕ) → (banks_of chip).bits ≡ 0 → position chip image address ≡ address
lands_plain chip image address e =
    lands chip image address ∙ stands_shared (banks_of chip) (selected chip image) address (shared_plain (banks_of chip) address e)

-- "Elsewhere in a bank the sheet lacks, writes change nothing and reads give 0."
pub missing_bank : (chip : Chip) (image : List ℕ) (address byte : ℕ) → shared_in (banks_of chip) address ≡ false
    → length image ≤ selected chip image * 256
    → (written chip address byte image ≡ image) × (seen chip address image ≡ 0)
unfolding stored_at
missing_bank chip image address byte e h =
    let at : position chip image address ≡ selected chip image * 256 + address =
    lands chip image address ∙ stands_banked (banks_of chip) (selected chip image) address e in
    let beyond : length image ≤ position chip image address = omega (arith, at) in (
      landed_alone chip (position chip image address) byte image (only_stores at (effects_known chip (position chip image address)))
          ∙ set_out image (position chip image address) _ beyond,
      get_or-eq_default image 0 beyond,
    )
  where
    -- a register with effects is seen in every bank
    only_stores : position chip image address ≡ selected chip image * 256 + address → Known chip (position chip image address)
        → effects_of chip (position chip image address) ≡ no_effects
    only_stores at (inl none) = none
    only_stores at (inr (i, f)) =
        let same : position chip image address ≡ address = omega (arith, at, i.0.address) in
        absurd (true≢false (sym i.0.shared ∙ ap (shared_in (banks_of chip)) same ∙ e))

-- what a chip's selector reads off an image is the bank selected: where there is one bank only, no bit is read
pub selected_by : (chip : Chip) (image : List ℕ) (selector : Selector) → selector ≡ selector_in (sheet_of chip)
    → bit_and (get_or image selector.register.position 0) selector.bits ≡ selected chip image
selected_by chip image selector e =
    ap (λ (s : Selector). bit_and (get_or image s.register.position 0) s.bits) e
    ∙ ap (bit_and (get_or image (selector_in (sheet_of chip)).register.position 0)) (selector_bits (sheet_of chip))
    ∙ by_bits (eqb (banks_of chip).bits 0) refl
    ∙ sym (selects chip image)
  where
    by_bits : (one : Bool) → eqb (banks_of chip).bits 0 ≡ one
        → bit_and (get_or image (selector_in (sheet_of chip)).register.position 0) (banks_of chip).bits
        ≡ bit_and (get_or image (banks_of chip).select 0) (banks_of chip).bits
    by_bits true t =
        let none = eqb-true (banks_of chip).bits 0 t in
        ap (bit_and (get_or image (selector_in (sheet_of chip)).register.position 0)) none
        ∙ and_zero_r (get_or image (selector_in (sheet_of chip)).register.position 0)
        ∙ sym (and_zero_r (get_or image (banks_of chip).select 0))
        ∙ sym (ap (bit_and (get_or image (banks_of chip).select 0)) none)
    by_bits false t =
        ap (λ (r : Register). bit_and (get_or image r.position 0) (banks_of chip).bits) (selector_register (sheet_of chip) t)
