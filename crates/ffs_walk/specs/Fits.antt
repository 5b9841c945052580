-- How a frame fits into a walk.
use Rattle.std.specs.Prelude.{ℕ, ◌<◌, ◌≤◌, ◌≡◌, ◌↔◌, Bool, false, IsTrue}
use Rattle.ffs_volume.specs.{declared.Layout.Layout, Disk.Areas.is_run_in_range, Blocks.Steps.indirect_addresses_needed}
use Rattle.ffs_walk.specs.declared.frame.{Frame.Frame, Item.{Item, TheVariants.{UnusedWord, Word}}}

-- where the frame has a word left, its block is in range and no direct block is under it; it counts
-- only words that a file of so many blocks uses
pub record FrameFits (v : Layout) (blocks span : ℕ) (f : Frame) : Type 0 where
  pub words : f.used ≤ indirect_addresses_needed v.nindir blocks f.first span
  pub in_range_there : f.next < f.used → IsTrue (is_run_in_range v f.address v.frag)
  pub indirect : f.next < f.used → 12 ≤ f.first

-- nothing is left in the frame
abbrev pub IsSpent : Frame → Type 0
IsSpent f = (f.next ≡ f.used) × (f.unread ≡ false)

-- whether a word is left in the frame: where none is, nothing is
pub record IsWordLeft (f : Frame) (answer : Bool) : Type 0 where
  pub left : IsTrue answer ↔ (f.next < f.used)
  pub spent : answer ≡ false → IsSpent f

-- the frame has no words
pub record HasNoWords (f : Frame) : Type 0 where
  pub used : f.used ≡ 0
  pub spent : IsSpent f

-- the logical block is one of an inode with `blocks` of them, and isn't direct
abbrev pub IsIndirect : ℕ → ℕ → Type 0
IsIndirect blocks block = (12 ≤ block) × (block < blocks)

-- an indirect block of an inode with `blocks` logical blocks may be entered: `span` of them lie under
-- each word, from `first` on
pub record CanEnter (blocks span first : ℕ) : Type 0 where
  pub some : 0 < span
  pub indirect : IsIndirect blocks first

-- the item's logical block is one of the inode, and isn't direct
abbrev pub IsBelow : ℕ → Item → Type 0
IsBelow blocks UnusedWord = Unit {0}
IsBelow blocks (Word address block) = IsIndirect blocks block
