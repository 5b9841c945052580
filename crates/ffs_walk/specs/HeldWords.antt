-- The words of the single indirect block that a walk is in, one by one.
use Rattle.std.specs.Prelude.{◌≡◌, ◌==◌, ◌+◌, ◌<◌, ℕ, List, ◌∷◌, Option, Some, false, if◌then◌else◌}
use Rattle.ffs_image.specs.Device.{ForContents}
use Rattle.ffs_volume.specs.{declared.Step.{Step, TheVariants.{Run, Gap}}, Blocks.Steps.address_in}
use Rattle.ffs_walk.specs.{declared.{blocks.Blocks.Blocks, walk.Walk.Walk}, Windows.{BlocksHold, HasRoom, held_address}}
use Rattle.ffs_walk.specs.{Counts.EntersOnly, Windows.level_bytes, Rests.{SameFileBlocks, most_steps_left, steps_left}}

-- the single indirect block that a walk is in is held, and was read before
pub record IsInHeldBlock (blocks : Blocks) (w : Walk) : Type 0 where
  pub read : w.single.unread ≡ false
  pub held : held_address 0 blocks ≡ Some w.single.address

-- a word is left of the single indirect block that a walk is in, which was read before
pub record CanPassWord (w : Walk) : Type 0 where
  pub read : w.single.unread ≡ false
  pub left : w.single.next < w.single.used

-- a word is left of the single indirect block that a walk is in, and the buffer has room for blocks
pub record CanSeeWord (blocks : Blocks) (w : Walk) : Type 0 where
  pub room : HasRoom w.geometry.layout blocks
  pub left : w.single.next < w.single.used

-- the address at the next word of the single indirect block that a walk is in
abbrev pub next_address : Blocks → Walk → ℕ
next_address blocks w = address_in w.geometry.layout (level_bytes w.geometry.layout 0 blocks) w.single.next

-- the step at an address of a logical block of data that has so many fragments
abbrev pub word_step : (len address block : ℕ) → Step
word_step len address block = if address == 0 then Gap else Run address len (Some block)

-- a walk passes over the next word of the single indirect block that it is in: the step at it is
-- passed over
pub record PassesWord (blocks : Blocks) (old new : Walk) : Type 0 where
  pub steps : (contents : Option (List ℕ)) → BlocksHold old.geometry.layout contents blocks →
      ForContents contents (λ bytes. steps_left bytes old
      ≡ word_step old.geometry.layout.frag (next_address blocks old) (old.single.first + old.single.next)
      ∷ steps_left bytes new)
  pub held : IsInHeldBlock blocks new

-- a walk passes over the next word of the single indirect block that it is in, and over the step at
-- that word where the block is held; no block more is to be read then
pub record PassesNextWord (old new : Walk) : Type 0 where
  pub word : (blocks : Blocks) → IsInHeldBlock blocks old → PassesWord blocks old new
  pub falls : most_steps_left new < most_steps_left old
  pub same : SameFileBlocks old new
  pub counted : EntersOnly old new 0
