-- The Runs that a reading of a directory may look at are those that the block check sees in it.
use Rattle.std.specs.Prelude.{◌≡◌, ℕ, ◌+◌, true, List}
use Rattle.ffs_volume.specs.{declared.Layout.Layout, Laws.Geometry.IsAcceptedLayout, Blocks.Inodes.inode_of}
use Rattle.ffs_volume.specs.Blocks.{Steps.steps_of, Owners.owner_of, Claims.after_owner, KeptSteps.claims_before}
use Rattle.ffs_volume.specs.{Directories.Volumes.is_inode_number, Encodings.Replay.{cut_at, fresh_replay}}
use Rattle.ffs_volume.specs.Encodings.ReplayCounts.{replayed_runs}

-- how many Runs the block check sees in an inode is how many its replay sees
abbrev pub RunsAreSeen : Type 0
RunsAreSeen = (v : Layout) (image : List ℕ) (x : ℕ) → IsAcceptedLayout v → is_inode_number v x ≡ true →
    (after_owner v (claims_before v image x) (owner_of v image x)).runs
    ≡ (claims_before v image x).runs + replayed_runs v (cut_at v image x) fresh_replay
    (steps_of v (inode_of v image x) image)
