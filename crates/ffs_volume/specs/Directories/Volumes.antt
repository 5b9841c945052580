-- The volume of an image, as the checks of directories see it. The record `Volume` is in `Roles`;
-- here its fields get their values from the image.
use Rattle.std.specs.Prelude.{ℕ, ◌*◌, Bool, false, ◌&&◌, nat_le, nat_lt, if◌then◌else◌, List, [], ◌||◌}
use Rattle.ffs_volume.specs.declared.{Layout.Layout, Class.{Class, TheVariants.Free}, Step.Step}
use Rattle.ffs_volume.specs.{Disk.Areas.is_run_in_range, Blocks.Inodes.{inode_of, class_of, is_unknown}}
use Rattle.ffs_volume.specs.Blocks.{Steps.steps_of, BlockCheck.is_marked, KeptSteps.{kept_steps_of, claims_before}}
use Rattle.ffs_volume.specs.Directories.{Entries.{ChunkSource, chunks_of, has_gap, bytes_read}, Roles.Volume}
use Rattle.ffs_volume.specs.Blocks.{Owners.owner_of, Claims.{has_blame, after_owner}}

-- x is the number of an inode: it is at least 2, and some group has it
abbrev pub is_inode_number : Layout → ℕ → Bool
is_inode_number v x = nat_le 2 x && nat_lt x (v.ncg * v.ipg)

-- the class of an inode; Free for a number that isn't an inode's
abbrev pub class_at : (v : Layout) (image : List ℕ) (x : ℕ) → Class
class_at v image x = if is_inode_number v x then class_of v (inode_of v image x) else Free

-- x is the number of a marked inode
abbrev pub marked_at : (v : Layout) (image : List ℕ) (x : ℕ) → Bool
marked_at v image x = if is_inode_number v x then is_marked v image x else false

-- phase 1 marks the inode x: it is of class Unknown, or has a bad Run or a dup offer
unfoldable pub marked_by_phase1_at : (v : Layout) (image : List ℕ) (x : ℕ) → Bool
marked_by_phase1_at v image x =
    if is_inode_number v x
    then is_unknown (class_of v (inode_of v image x))
    || has_blame (after_owner v (claims_before v image x) (owner_of v image x))
    else false

-- the steps of an inode; none for a number that isn't an inode's
abbrev pub steps_of_inode : (v : Layout) (image : List ℕ) (x : ℕ) → List Step
steps_of_inode v image x = if is_inode_number v x then steps_of v (inode_of v image x) image else []

-- the kept steps of an inode; none for a number that isn't an inode's
abbrev pub kept_steps_of_inode : (v : Layout) (image : List ℕ) (x : ℕ) → List Step
kept_steps_of_inode v image x = if is_inode_number v x then kept_steps_of v image x else []

-- what the chunks of the directory d are read from
unfoldable pub chunk_source_of : (v : Layout) (image : List ℕ) (d : ℕ) → ChunkSource
chunk_source_of v image d = record {
  order = v.order;
  image = image;
  bsize = v.bsize;
  fsize = v.fsize;
  read_bytes = bytes_read (inode_of v image d).size;
}

-- the volume where each inode has these steps, and these inodes are marked
unfoldable pub volume_with : Layout → List ℕ → (ℕ → List Step) → (ℕ → Bool) → Volume
volume_with v image steps marked = record {
  count = v.ncg * v.ipg;
  class = class_at v image;
  inode = inode_of v image;
  gap = λ d. has_gap (steps d);
  chunks = λ d. chunks_of (chunk_source_of v image d) (is_run_in_range v) (steps d);
  marked = marked;
}

-- the volume that the checks see: of the kept steps, with the marked inodes
unfoldable pub volume_of : Layout → List ℕ → Volume
volume_of v image = volume_with v image (kept_steps_of_inode v image) (marked_at v image)

-- the volume of all steps, kept or not, with nothing marked
unfoldable pub whole_volume : Layout → List ℕ → Volume
whole_volume v image = volume_with v image (steps_of_inode v image) (λ x. false)
