-- Runs that the words of an indirect block name in turn, and that are claimed together.
use Rattle.std.specs.Prelude.{◌≡◌, ℕ, ◌+◌, ◌/◌, ◌%◌, ◌<◌, ◌≤◌, true, length}
use Rattle.ffs_volume.specs.{Blocks.Claims.{Claims, is_open}, Disk.Areas.is_run_in_range, declared.Layout.Layout}
use Rattle.ffs_maps.specs.Bits.{AreClear, set_run}
use Rattle.ffs_walk.specs.{Counts.EntersOnly, HeldWords.{IsInHeldBlock, next_address}, Rests.SameFileBlocks}
use Rattle.ffs_walk.specs.{Rests.most_steps_left, declared.{blocks.Blocks.Blocks, walk.Walk.Walk}}
use Rattle.ffs_workspace.specs.declared.workspace.Workspace.{Workspace}
use Rattle.ffs_claims.specs.{Bounds.address_bound, Claiming.CanSeeNext, SilentAddresses.{ClaimsAddresses, MeansSame}}
use Rattle.ffs_claims.specs.declared.area.DataArea.{DataArea}

-- a word is left of the single indirect block that a walk is in, and this is the address there
pub record HasNext (blocks : Blocks) (w : Walk) (address : ℕ) : Type 0 where
  pub left : w.single.next < w.single.used
  pub address_is : next_address blocks w ≡ address

-- these claims, and a series of Runs of a whole block each, which have `len` fragments from a fragment on
abbrev pub with_series : (frag : ℕ) → Claims → (start len : ℕ) → Claims
with_series frag s start len =
    record s { used = set_run s.used start len; runs = s.runs + len / frag; kept = s.kept + len }

-- a series of Runs of a whole block each can be claimed: the inode isn't cut, each of these Runs is in
-- range, and their fragments are unclaimed
pub record CanClaimSeries (v : Layout) (s : Claims) (start len : ℕ) : Type 0 where
  pub uncut : is_open s ≡ true
  pub long : length s.used ≡ v.size
  pub in_range : (f : ℕ) → start ≤ f → f + v.frag ≤ start + len → is_run_in_range v f v.frag ≡ true
  pub clear : AreClear s.used start len

-- a walk passes over the words that name a series of Runs, which have `len` fragments from an address on, in one
-- word of the map
pub record PassesSeries (v : Layout) (blocks : Blocks) (start len : ℕ) (walk walk' : Walk) : Type 0 where
  pub claims : (s : Claims) → CanClaimSeries v s start len →
      MeansSame v blocks s (with_series v.frag s start len) walk walk'
  pub one_word : start % 64 + len ≤ 64
  pub held : IsInHeldBlock blocks walk'
  pub falls : most_steps_left walk' ≤ most_steps_left walk
  pub passes : 0 < len → most_steps_left walk' < most_steps_left walk
  pub same : SameFileBlocks walk walk'
  pub counted : EntersOnly walk walk' 0

-- what the next words of an indirect block offer can be claimed: the inode's next step can be seen, the block is
-- held, and a word is left
pub record CanClaimNext (w : Workspace) (area : DataArea) (walk : Walk) : Type 0 where
  pub next : CanSeeNext walk.geometry.layout w area address_bound
  pub held : IsInHeldBlock w.windows.blocks walk
  pub left : walk.single.next < walk.single.used

-- what some of the next words offer is claimed, and the walk is in the same block
pub record ClaimsNext (old new : Workspace) (walk walk' : Walk) : Type 0 where
  pub words : ClaimsAddresses walk.geometry.layout old new walk walk'
  pub held : IsInHeldBlock new.windows.blocks walk'
  pub falls : most_steps_left walk' < most_steps_left walk
