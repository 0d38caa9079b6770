-- What a write at a position does to an image, for whoever plays several: its length and every other byte stay, a register takes a value that fits its
-- writable bits, and one without masks changes nothing. The last two go bit by bit, by induction over the number of bits.
-- Assumes nothing.
use Prim.Native.Nat.{ℕ, zero, suc, ◌+◌, ◌*◌, ◌/◌, ◌%◌, ◌^◌, ◌<◌, min}
use native.Mathlib.Nat.{pow-suc, min-zero}
use native.Mathlib.Omega.{arith}
use mathlib.Core.Path.{◌≡◌, refl, sym, ap, ap₂, ◌∙◌}
use mathlib.Core.Bool.{Bool, true, false, cond, ◌&&◌}
use mathlib.Core.List.{List}
use borrow.Author.Tests.{ltb-true, ltb-false}
use lib.Arith.{lt-one}
use lib.Bits.{bit_and, and_step, and_self}
use lib.Dec.{eqb, ltb}
use lib.ListN.{length, get_or, set, length-set}
use lib.Seq.{get_or-set_same, get_or-set_other, set-get_or, set_out}
use Rattle.pages.specs.declared.Masks.{Masks}
use Rattle.images.specs.Bytes.{stored_bit, stored_bits, stored, stored_at}
use Rattle.images.proofs.Digits.{bit, digit}

-- the image keeps its length
pub stored_at_length : (masks : Masks) (position byte : ℕ) (image : List ℕ) → length (stored_at masks position byte image) ≡ length image
unfolding stored_at
stored_at_length masks position byte image = length-set image position (stored masks (get_or image position 0) byte)

-- and every other position its byte
pub stored_at_other : (masks : Masks) (position byte : ℕ) (image : List ℕ) (k : ℕ) → (k ≡ position → ⊥)
    → get_or (stored_at masks position byte image) k 0 ≡ get_or image k 0
unfolding stored_at
stored_at_other masks position byte image k h = get_or-set_other image position k (stored masks (get_or image position 0) byte) 0 h

-- a stored bit is a bit
one_bit : (w c o x : ℕ) → o < 2 → x < 2 → stored_bit w c o x < 2
one_bit w c o x p q = one_of (eqb w 1) (eqb c 1 && eqb x 1)
  where
    one_of : (s t : Bool) → cond s x (cond t 0 o) < 2
    one_of true t = q
    one_of false true = omega arith
    one_of false false = p

-- so those above the last are stored by themselves, and the last is
pub stored_half : (n w c o x : ℕ) → stored_bits (suc n) w c o x / 2 ≡ stored_bits n (w / 2) (c / 2) (o / 2) (x / 2)
stored_half n w c o x =
    let small : stored_bit (w % 2) (c % 2) (o % 2) (x % 2) < 2 = one_bit (w % 2) (c % 2) (o % 2) (x % 2) (omega arith) (omega arith) in
    omega arith

pub stored_last : (n w c o x : ℕ) → stored_bits (suc n) w c o x % 2 ≡ stored_bit (w % 2) (c % 2) (o % 2) (x % 2)
stored_last n w c o x =
    let small : stored_bit (w % 2) (c % 2) (o % 2) (x % 2) < 2 = one_bit (w % 2) (c % 2) (o % 2) (x % 2) (omega arith) (omega arith) in
    omega arith

-- a writable bit is the new one; one that is not asked does not matter
taken_bit : (w m : Bool) (c o x : ℕ) → min (bit w) (bit m) ≡ bit m → min (stored_bit (bit w) c o x) (bit m) ≡ min x (bit m)
taken_bit w false c o x p = min-zero (stored_bit (bit w) c o x) ∙ sym (min-zero x)
taken_bit true true c o x p = refl
taken_bit false true c o x p = absurd (omega arith)

taken_digit : (w m c o x : ℕ) → min (w % 2) (m % 2) ≡ m % 2 → min (stored_bit (w % 2) c o x) (m % 2) ≡ min x (m % 2)
taken_digit w m c o x =
    digit (λ w'. min w' (m % 2) ≡ m % 2 → min (stored_bit w' c o x) (m % 2) ≡ min x (m % 2))
    (λ wb. digit (λ m'. min (bit wb) m' ≡ m' → min (stored_bit (bit wb) c o x) m' ≡ min x m') (λ mb. taken_bit wb mb c o x) m) w

-- of n bits, those asked that are all writable are the new ones
taken_bits : (n w c m o x : ℕ) → x < 2 ^ n → bit_and w m ≡ m → bit_and (stored_bits n w c o x) m ≡ bit_and x m
taken_bits zero w c m o x h p = ap (λ (y : ℕ). bit_and y m) (sym (lt-one h))
taken_bits (suc n) w c m o x h p =
    let step : bit_and (w / 2) (m / 2) * 2 + min (w % 2) (m % 2) ≡ m = sym (and_step w m) ∙ p in
    let less : x / 2 < 2 ^ n = omega (arith, rw pow-suc at h) in
    and_step (stored_bits (suc n) w c o x) m
    ∙ ap₂ (λ (a b : ℕ). a * 2 + b)
    (ap (λ (y : ℕ). bit_and y (m / 2)) (stored_half n w c o x)
    ∙ taken_bits n (w / 2) (c / 2) (m / 2) (o / 2) (x / 2) less (omega arith))
    (ap (λ (y : ℕ). min y (m % 2)) (stored_last n w c o x) ∙ taken_digit w m (c % 2) (o % 2) (x % 2) (omega arith))
    ∙ sym (and_step x m)

-- of a byte that is written, bits that are all writable are stored ..
pub stored_under : (masks : Masks) (old byte bits : ℕ) → bit_and masks.writable bits ≡ bits → byte < 2 ^ 8
    → bit_and (stored masks old byte) bits ≡ bit_and byte bits
unfolding stored
stored_under masks old byte bits p h = taken_bits 8 masks.writable masks.clears bits old byte h p

-- .. and are there afterwards
pub stored_at_under : (masks : Masks) (position byte : ℕ) (image : List ℕ) (bits : ℕ) → bit_and masks.writable bits ≡ bits → byte < 2 ^ 8
    → position < length image → bit_and (get_or (stored_at masks position byte image) position 0) bits ≡ bit_and byte bits
unfolding stored_at
stored_at_under masks position byte image bits p h inside =
    ap (λ (y : ℕ). bit_and y bits) (get_or-set_same image position (stored masks (get_or image position 0) byte) 0 inside)
    ∙ stored_under masks (get_or image position 0) byte bits p h

-- so a value that fits the writable bits is seen there, whatever they are
pub stored_at_takes : (masks : Masks) (position value : ℕ) (image : List ℕ) → bit_and value masks.writable ≡ value → value < 2 ^ 8
    → position < length image → bit_and (get_or (stored_at masks position value image) position 0) masks.writable ≡ value
stored_at_takes masks position value image fits h inside =
    stored_at_under masks position value image masks.writable (and_self masks.writable) h inside ∙ fits

-- what it stores goes by the byte that was there
pub stored_at_there : (masks : Masks) (position byte : ℕ) (x y : List ℕ) → length x ≡ length y → get_or x position 0 ≡ get_or y position 0
    → get_or (stored_at masks position byte x) position 0 ≡ get_or (stored_at masks position byte y) position 0
unfolding stored_at
stored_at_there masks position byte x y long same = by_place (ltb position (length x)) refl
  where
    by_place : (inside : Bool) → ltb position (length x) ≡ inside
        → get_or (set x position (stored masks (get_or x position 0) byte)) position 0 ≡ get_or (set y position (stored masks (get_or y position 0) byte)) position 0
    by_place true e =
        let h = ltb-true position (length x) e in
        get_or-set_same x position (stored masks (get_or x position 0) byte) 0 h
        ∙ ap (λ (b : ℕ). stored masks b byte) same
        ∙ sym (get_or-set_same y position (stored masks (get_or y position 0) byte) 0 (omega (arith, long)))
    by_place false e =
        let h = ltb-false position (length x) e in
        ap (λ (l : List ℕ). get_or l position 0) (set_out x position (stored masks (get_or x position 0) byte) h)
        ∙ same
        ∙ sym (ap (λ (l : List ℕ). get_or l position 0) (set_out y position (stored masks (get_or y position 0) byte) (omega (arith, long))))

-- no bit of either mask: every bit is the old one
none_writable : (n o x : ℕ) → o < 2 ^ n → stored_bits n 0 0 o x ≡ o
none_writable zero o x h = sym (lt-one h)
none_writable (suc n) o x h =
    let less : o / 2 < 2 ^ n = omega (arith, rw pow-suc at h) in
    rw (none_writable n (o / 2) (x / 2) less) (omega arith)

-- without masks the old byte is kept
pub stored_closed : (masks : Masks) (old byte : ℕ) → masks.writable ≡ 0 → masks.clears ≡ 0 → old < 2 ^ 8 → stored masks old byte ≡ old
unfolding stored
stored_closed masks old byte e f h = rw (e, f) (none_writable 8 old byte h)

-- and so the image
pub stored_at_closed : (masks : Masks) (position byte : ℕ) (image : List ℕ) → masks.writable ≡ 0 → masks.clears ≡ 0 → get_or image position 0 < 2 ^ 8
    → stored_at masks position byte image ≡ image
unfolding stored_at
stored_at_closed masks position byte image e f h =
    ap (set image position) (stored_closed masks (get_or image position 0) byte e f h) ∙ set-get_or image position 0
