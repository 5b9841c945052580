-- Which directories need a check in phase 2, by the bytes of the image, and that a call takes away none of the
-- flags by which others need none.
use Rattle.std.specs.Prelude.{◌≡◌, ℕ, true, false, List, ◌<◌, ◌≤◌, Bool, not, ◌&&◌, ◌||◌, ◌==◌, slice_index, vec_len}
use Rattle.ffs_volume.specs.{declared.Layout.Layout, Encodings.Lists.bool_at, Costs.DirectoryReads.is_looked_at}
use Rattle.ffs_volume.specs.declared.constants.TheConstants.{DT_DIR}
use Rattle.ffs_workspace.specs.{declared.workspace.Workspace.Workspace, Holds.bool_at}
use Rattle.ffs_pathnames.specs.Sees.{HasInodeLists}

-- a directory that isn't of size 0 and isn't known to be calm. That a marked one is flagged doesn't
-- mean that it is calm, but that an entry has named it
abbrev pub needs_check : Workspace → ℕ → Bool
needs_check w x = (slice_index w.kinds.items x == DT_DIR)
    && (bool_at w.marked.items x || not (bool_at w.flags.items x))

-- the lists say something of each inode, and x is one
pub record ListsInode (w : Workspace) (x : ℕ) : Type 0 where
  pub lists : HasInodeLists w
  pub number : x < vec_len w.kinds

-- the lists say something of each of so many inodes, which are no fewer than the root's number
pub record ListsInodes (w : Workspace) (n : ℕ) : Type 0 where
  pub lists : HasInodeLists w
  pub count : n ≡ vec_len w.kinds
  pub some : 2 ≤ n

-- the first directory that needs a check, or `count` where none does
pub record IsFirstToCheck (w : Workspace) (count first : ℕ) : Type 0 where
  pub range : (2 ≤ first) × (first ≤ count)
  pub found : first < count → needs_check w first ≡ true
  pub before : (x : ℕ) → 2 ≤ x → x < first → needs_check w x ≡ false

-- only directories that are looked at need a check
abbrev pub ChecksLookedAt : Layout → List ℕ → Workspace → Type 0
ChecksLookedAt v b w = (dir : ℕ) → is_looked_at v b dir ≡ false → needs_check w dir ≡ false

-- no flag is taken away
abbrev pub KeepsFlags : (old new : Workspace) → Type 0
KeepsFlags old new = (x : ℕ) → bool_at old.flags.items x ≡ true → bool_at new.flags.items x ≡ true
