-- What a look-up promises: that of a chip's own crate at its chip, and that of `cards` at every chip.
-- Assumes nothing.
use Rattle.std.specs.Prelude.{ℕ, ◌≡◌, Bool, Option, Result}
use Rattle.refusal.specs.declared.Refusal.{Refusal}
use Rattle.pages.specs.declared.Chip.{Chip}
use Rattle.pages.specs.declared.Effects.{Effects}
use Rattle.pages.specs.declared.Masks.{Masks}
use Rattle.pages.specs.declared.Ground.{Ground}
use Rattle.pages.specs.declared.Register.{Register}
use Rattle.pages.specs.declared.Required.{Required}
use Rattle.pages.specs.declared.Selector.{Selector}
use Rattle.pages.specs.declared.Sizes.{Sizes}
use Rattle.pages.specs.declared.Layout.{Layout}
use Rattle.pages.specs.Banks.{stands_in}
use Rattle.pages.specs.Rows.{masks_in, required_in, in_one_row, stands_at}
use Rattle.pages.specs.Sheets.{sizes_in, laid_in, goes_with, selector_in}
use Rattle.pages.specs.Cards.{sheet_of, named, banks_of, row_of, effects_of, is_status, layout_of, ground_of}

-- what `Chip::try_from` promises
pub record Names (number : ℕ) (r : Result Chip Refusal) : Type 0 where
  pub answer : r ≡ named number

-- what `cards::masks_of` and `masks` of a chip promise
pub record Finds (chip : Chip) (position : ℕ) (masks : Masks) : Type 0 where
  pub answer : masks ≡ masks_in (row_of chip position)

-- what `cards::effects_of` and `effects` of a chip promise
pub record Acts (chip : Chip) (position : ℕ) (effects : Effects) : Type 0 where
  pub answer : effects ≡ effects_of chip position

-- what `cards::is_status` promises
pub record Reports (chip : Chip) (position : ℕ) (r : Bool) : Type 0 where
  pub answer : r ≡ is_status chip position

-- what `cards::power_on_of` and `power` of a chip promise
pub record PowersOn (chip : Chip) (position byte : ℕ) : Type 0 where
  pub answer : byte ≡ (row_of chip position).power

-- what `cards::sizes_of` promises
pub record TellsSizes (chip : Chip) (sizes : Sizes) : Type 0 where
  pub answer : sizes ≡ sizes_in (sheet_of chip)

-- what `cards::required_of` and `required` of a chip promise
pub record Requires (chip : Chip) (k : ℕ) (required : Required) : Type 0 where
  pub answer : required ≡ required_in (sheet_of chip).identity k

-- what `cards::table_of` and `table` of a chip promise
pub record Lays (chip : Chip) (number : ℕ) (fan : Option Layout) : Type 0 where
  pub answer : fan ≡ laid_in (sheet_of chip) number

-- what `cards::layout_of` promises
pub record LaysOut (chip : Chip) (number : ℕ) (facts : Layout) : Type 0 where
  pub answer : facts ≡ layout_of chip number

-- what `cards::ground_of` and `ground` of a chip promise
pub record Stands (chip : Chip) (number : ℕ) (stretches : Ground) : Type 0 where
  pub answer : stretches ≡ ground_of chip number

-- what `cards::selector_of` promises
pub record Selects (chip : Chip) (selector : Selector) : Type 0 where
  pub answer : selector ≡ selector_in (sheet_of chip)

-- what `cards::position_of` and `position` of a chip promise
pub record Positions (chip : Chip) (bank address position : ℕ) : Type 0 where
  pub answer : position ≡ stands_in (banks_of chip) bank address

-- what `pages::goes_with` promises
pub record GoesWith (layout : Layout) (points : ℕ) (r : Bool) : Type 0 where
  pub answer : r ≡ goes_with layout points

-- what `pages::one_row` promises
pub record StandsInOneRow (first settings speeds : ℕ) (masks : Masks) (stretches : Ground) : Type 0 where
  pub answer : stretches ≡ in_one_row first settings speeds masks

-- what `pages::register_at` promises: the k-th register of the ground, and none behind the last
pub record StandsAt (stretches : Ground) (k : ℕ) (register : Register) : Type 0 where
  pub answer : register ≡ stands_at stretches k
