-- The direct addresses of an inode, one by one.
use Rattle.std.specs.Prelude.{◌≡◌, ◌<◌, ◌≤◌, ℕ, List, ◌∷◌, slice_index}
use Rattle.ffs_volume.specs.Blocks.Steps.{data_length}
use Rattle.ffs_walk.specs.{Counts.EntersOnly, HeldWords.word_step, declared.walk.Walk.Walk}
use Rattle.ffs_walk.specs.Rests.{IsAtTop, SameFileBlocks, file_blocks_of, most_steps_left, steps_left}

-- the next of the inode's own addresses is used, and that of a direct block: one of the first 12 (NDADDR)
pub record HasDirect (w : Walk) : Type 0 where
  pub direct : w.next < 12
  pub used : w.next < w.used

-- the next of the inode's own addresses, and how many fragments the block there has
abbrev pub direct_address : Walk → ℕ
direct_address w = slice_index w.addresses w.next

abbrev pub direct_length : Walk → ℕ
direct_length w = data_length (file_blocks_of w) w.next

-- these are the next of the inode's own addresses, and the number of fragments of the block there: some,
-- and no more than a block
pub record IsNextDirect (w : Walk) (address len : ℕ) : Type 0 where
  pub address_is : address ≡ direct_address w
  pub length : len ≡ direct_length w
  pub within : (0 < len) × (len ≤ w.geometry.layout.frag)

-- a walk that is in no indirect block passes over the next of the inode's own addresses, and so over the
-- step there; no block more is to be read then
pub record PassesDirect (old new : Walk) : Type 0 where
  pub steps : (bytes : List ℕ) → steps_left bytes old
      ≡ word_step (direct_length old) (direct_address old) old.next ∷ steps_left bytes new
  pub top : IsAtTop new
  pub falls : most_steps_left new < most_steps_left old
  pub same : SameFileBlocks old new
  pub counted : EntersOnly old new 0
