-- "Register cards": what a byte write stores, bit by bit, and "The initialization bit": what it does to the rest of the image.
-- Assumes nothing.
use Rattle.std.specs.Prelude.{ℕ, zero, suc, ◌+◌, ◌-◌, ◌*◌, ◌/◌, ◌%◌, Bool, cond, not, ◌&&◌, List, eqb, length, get_or, set}
use Rattle.std.specs.Int.Bits.{bit_and}
use Rattle.pages.specs.declared.Chip.{Chip}
use Rattle.pages.specs.declared.Effects.{Effects}
use Rattle.pages.specs.declared.Masks.{Masks}
use Rattle.pages.specs.Banks.{stands_in}
use Rattle.pages.specs.Rows.{Row, masks_in, mask_of, column}
use Rattle.pages.specs.Cards.{row_of, effects_of, banks_of}

-- "A byte write to an address replaces the writable bits, clears those clear bits where a 1 is written, and keeps the others."
abbrev pub stored_bit : ℕ → ℕ → ℕ → ℕ → ℕ
stored_bit writable clears old new = cond (eqb writable 1) new (cond (eqb clears 1 && eqb new 1) 0 old)

-- n bits of it, the lowest last
abbrev pub stored_bits : ℕ → ℕ → ℕ → ℕ → ℕ → ℕ
stored_bits zero writable clears old new = 0
stored_bits (suc n) writable clears old new =
    stored_bits n (writable / 2) (clears / 2) (old / 2) (new / 2) * 2 + stored_bit (writable % 2) (clears % 2) (old % 2) (new % 2)

unfoldable pub stored : Masks → ℕ → ℕ → ℕ
stored masks old new = stored_bits 8 masks.writable masks.clears old new

-- a write at a position of the image, by the masks of that position: every other position keeps its byte
unfoldable pub stored_at : Masks → ℕ → ℕ → List ℕ → List ℕ
stored_at masks position byte image = set image position (stored masks (get_or image position 0) byte)

-- .. and so by a chip's card
abbrev pub placed : Chip → ℕ → ℕ → List ℕ → List ℕ
placed chip position byte image = stored_at (masks_in (row_of chip position)) position byte image

-- "all writable bits of the card, that bit included, have power-on values; read-only bits and the watch's facts stay". A watch stands beside the image,
-- and no write has one. So of a byte ..
abbrev pub initial_byte : Row → ℕ → ℕ
initial_byte row old = stored (mask_of row.writable) old row.power

-- .. and of an image
unfoldable pub initialized : Chip → List ℕ → List ℕ
initialized chip image = column (length image) (λ k. initial_byte (row_of chip k) (get_or image k 0))

-- "after a write that sets it": one of the bits that initialize is 1 in the byte, whatever it was before
abbrev pub initializes : Effects → ℕ → Bool
initializes effects byte = not (eqb (bit_and byte effects.initialize) 0)

-- "since we model no time, let it read 0 after the write": what lasts of a byte, without the bits that clear themselves
abbrev pub settled : Effects → ℕ → ℕ
settled effects byte = byte - bit_and byte effects.fleeting

-- A write on the bus, where it lands: what lasts of the byte is stored there. "Every other address keeps its byte", with one exception: where the byte
-- initializes, the writable bits of every position, that one included, then have their power-on values.
unfoldable pub landed : Chip → ℕ → ℕ → List ℕ → List ℕ
landed chip position byte image =
    let effects = effects_of chip position in
    let after = placed chip position (settled effects byte) image in
    cond (initializes effects byte) (initialized chip after) after

-- "The bank selected is what the bank bits of the bank select register say, whatever its other bits hold". Chip 1 has one bank here: "its image is
-- bank 0, which counts as selected whatever 00h holds".
unfoldable pub selected : Chip → List ℕ → ℕ
selected chip image = bit_and (get_or image (banks_of chip).select 0) (banks_of chip).bits

-- Where a bus access lands, behind the image's end in a bank that the chip lacks.
unfoldable pub position : Chip → List ℕ → ℕ → ℕ
position chip image address = stands_in (banks_of chip) (selected chip image) address

-- a write on the bus ..
abbrev pub written : Chip → ℕ → ℕ → List ℕ → List ℕ
written chip address byte image = landed chip (position chip image address) byte image

-- .. and the byte that a read gives
abbrev pub seen : Chip → ℕ → List ℕ → ℕ
seen chip address image = get_or image (position chip image address) 0
