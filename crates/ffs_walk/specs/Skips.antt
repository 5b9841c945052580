-- What a walk leaves that has passed over gaps.
use Rattle.std.specs.Prelude.{◌≡◌, ◌+◌, ◌<◌, ◌≤◌, ◌++◌, ◌∷◌, [], ℕ, List, Option, Some, false, replicate, slice_index}
use Rattle.ffs_image.specs.Device.{ForContents}
use Rattle.ffs_volume.specs.{declared.{Layout.Layout, Step.{Step, TheVariants.Gap}}, Blocks.Steps.address_in}
use Rattle.ffs_walk.specs.{declared.{blocks.Blocks.Blocks, frame.Frame.Frame, walk.Walk.Walk}, Fits.IsSpent}
use Rattle.ffs_walk.specs.{Windows.{BlocksHold, HasLevel, held_address, level_bytes}, Frames.{IsSameBlock, frame_left}}
use Rattle.ffs_walk.specs.{Frames.frame_rest, Rests.{IsAtTop, SameFileBlocks, most_steps_left, steps_left}}
use Rattle.ffs_walk.specs.Counts.{EntersOnly}

-- the next word in the block of a frame isn't zero, where the block is held for the level and was
-- read before
abbrev pub HasNoGapNext : Layout → ℕ → Blocks → Frame → Type 0
HasNoGapNext v level blocks f = f.unread ≡ false → held_address level blocks ≡ Some f.address → f.next < f.used
    → 0 < address_in v (level_bytes v level blocks) f.next

-- the walk's addresses from the next one on and below an index are zero, and the one at the index
-- isn't, where it is used
pub record EndsZeroAddresses (w : Walk) (end : ℕ) : Type 0 where
  pub within : (w.next ≤ end) × (end ≤ w.used)
  pub zeros : (k : ℕ) → w.next ≤ k → k < end → slice_index w.addresses k ≡ 0
  pub passed : end < w.used → 0 < slice_index w.addresses end

-- no gap is known to come next in the innermost indirect block that a walk was in, or at the
-- inode's own addresses where it was in none
pub record HasPassedGaps (old new : Walk) (blocks : Blocks) : Type 0 where
  pub single : old.single.next < old.single.used → HasNoGapNext old.geometry.layout 0 blocks new.single
  pub double : IsSpent old.single → old.double.next < old.double.used
      → HasNoGapNext old.geometry.layout 1 blocks new.double
  pub triple : IsSpent old.single → IsSpent old.double → old.triple.next < old.triple.used
      → HasNoGapNext old.geometry.layout 2 blocks new.triple
  pub top : IsAtTop old → new.next < new.used → 0 < slice_index new.addresses new.next

-- words of a frame may be passed over: it has no more of them than a block, and there is room for the
-- blocks of this level
pub record CanSkip (v : Layout) (level : ℕ) (f : Frame) (blocks : Blocks) : Type 0 where
  pub words : f.used ≤ v.nindir
  pub ready : HasLevel v level blocks

-- a frame passes over so many words of zero, which mean as many gaps at every level, and none
-- follows that is known
pub record PassesZeros (v : Layout) (level : ℕ) (blocks : Blocks) (old new : Frame) (gaps : ℕ) : Type 0 where
  pub steps : (contents : Option (List ℕ)) → BlocksHold v contents blocks → ForContents contents (λ bytes.
      (child : ℕ → ℕ → List Step) (span : ℕ) → ((block : ℕ) → child 0 block ≡ Gap ∷ []) →
      frame_rest v bytes child span old ≡ replicate gaps Gap ++ frame_rest v bytes child span new)
  pub falls : (most : ℕ) → frame_left most new ≤ frame_left most old
  pub next : new.next ≡ old.next + gaps
  pub passed : HasNoGapNext v level blocks new
  pub same : IsSameBlock old new × (new.unread ≡ old.unread)

-- a walk passes over so many gaps, over all that come next in the innermost block that it was in
pub record PassesGaps (blocks : Blocks) (old new : Walk) (gaps : ℕ) : Type 0 where
  pub steps : (contents : Option (List ℕ)) → BlocksHold old.geometry.layout contents blocks →
      ForContents contents (λ bytes. steps_left bytes old ≡ replicate gaps Gap ++ steps_left bytes new)
  pub falls : most_steps_left new ≤ most_steps_left old
  pub passed : HasPassedGaps old new blocks
  pub same : SameFileBlocks old new
  pub counted : EntersOnly old new 0
