-- What the check of references needs of a workspace, and which inodes it passes over.
use Rattle.std.specs.Prelude.{ℕ, ◌≡◌, ◌+◌, ◌<◌, ◌≤◌, List, length, vec_len, true, false, slice_index}
use Rattle.ffs_image.specs.Device.{Device}
use Rattle.ffs_volume.specs.{declared.Layout.Layout, Blocks.Inodes.is_allocated, Encodings.Kinds.class_of_kind}
use Rattle.ffs_groups.specs.Inodes.{class_in}
use Rattle.ffs_volume.specs.Blocks.Inodes.{inodes_of}
use Rattle.ffs_workspace.specs.{declared.workspace.Workspace.Workspace, Ready.CanRead}

-- the lists by which an inode is reported have an element for it
pub record HasElements (w : Workspace) (number : ℕ) : Type 0 where
  pub kinds : number < vec_len w.kinds
  pub marked : number < vec_len w.marked
  pub named : number < vec_len w.named
  pub references : number < vec_len w.references

-- the windows hold what the image gives, and x is an allocated inode of the volume
pub record CanCheckAllocated (v : Layout) (d : Device) (w : Workspace) (x : ℕ) : Type 0 where
  pub ready : CanRead v d w
  pub number : x < inodes_of v
  pub allocated : is_allocated (class_of_kind (slice_index w.kinds.items x)) ≡ true

-- none of these inodes is allocated: each is Free or Partial
abbrev pub AreUnallocated : List ℕ → Type 0
AreUnallocated kinds = (k : ℕ) → k < length kinds → is_allocated (class_in kinds k) ≡ false

-- so many inodes from `first` on aren't allocated, and there are none only where that one is
pub record AreUnallocatedFrom (kinds : List ℕ) (first n : ℕ) : Type 0 where
  pub within : first + n ≤ length kinds
  pub unallocated : (k : ℕ) → k < n → is_allocated (class_in kinds (first + k)) ≡ false
  pub allocated : n ≡ 0 → is_allocated (class_in kinds first) ≡ true
