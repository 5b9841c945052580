-- Which inodes the check of references passes over, by the lists of a workspace.
use Rattle.std.specs.Prelude.{ℕ, ◌≡◌, ◌+◌, ◌<◌, ◌≤◌, vec_len, true}
use Rattle.ffs_volume.specs.Blocks.Inodes.{is_allocated}
use Rattle.ffs_groups.specs.Inodes.{class_in}
use Rattle.ffs_workspace.specs.declared.workspace.Workspace.{Workspace}
use Rattle.ffs_counts.specs.References.{is_right_by}

-- the lists are as long as that of kinds, which has the inode `first`
pub record CanSkipFrom (w : Workspace) (first : ℕ) : Type 0 where
  pub inside : first < vec_len w.kinds
  pub marked : vec_len w.marked ≡ vec_len w.kinds
  pub references : vec_len w.references ≡ vec_len w.kinds

-- so many inodes from `first` on are right
pub record AreRightFrom (w : Workspace) (first n : ℕ) : Type 0 where
  pub within : first + n ≤ vec_len w.kinds
  pub right : (x : ℕ) → first ≤ x → x < first + n → is_right_by w x ≡ true

-- so many inodes from `first` on are right or aren't allocated, and there are none only where that one
-- is allocated
pub record AreSkippedFrom (w : Workspace) (first n : ℕ) : Type 0 where
  pub within : first + n ≤ vec_len w.kinds
  pub right : (k : ℕ) → k < n → is_allocated (class_in w.kinds.items (first + k)) ≡ true →
      is_right_by w (first + k) ≡ true
  pub allocated : n ≡ 0 → is_allocated (class_in w.kinds.items first) ≡ true
