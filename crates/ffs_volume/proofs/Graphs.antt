-- Conditions on graphs of directories, which laws speak of.
use Rattle.std.proofs.Common.{◌≡◌, ◌≢◌, ℕ, ◌<◌, Bool, true, false, Some}
use Rattle.ffs_volume.specs.Directories.Graph.{Graph, reached, parent, parent_entry_index, is_naming_entry_at}
use Rattle.ffs_volume.specs.Directories.Connectivity.{is_dead_in, is_unref_dir_in}
use Rattle.ffs_volume.specs.{Consistent.DirectoriesRight.IsNamedOnce, declared.constants.TheConstants.ROOTINO}

-- a directory has the number of an inode, and there is an inode 2
pub record IsSane (g : Graph) : Type 0 where
  pub some : ROOTINO < g.count
  pub dirs : (d : ℕ) → g.is_dir d ≡ true → d < g.count

-- each directory is reached from inode 2
abbrev pub AllReached : Graph → Type 0
AllReached g = (d : ℕ) → g.is_dir d ≡ true → reached g d ≡ true

-- no inode is dead
abbrev pub NoneDead : Graph → (ℕ → Bool) → Type 0
NoneDead g suspect = (x : ℕ) → is_dead_in g suspect x ≡ false

-- no directory has a line UNREF DIR
abbrev pub NoUnrefDir : Graph → (ℕ → Bool) → Type 0
NoUnrefDir g suspect = (d : ℕ) → is_unref_dir_in g suspect d ≡ false

-- the entry at index j of s is the parent entry of d, as a fact
abbrev pub IsParentEntry : Graph → ℕ → ℕ → ℕ → Type 0
IsParentEntry g s j d = (parent g d ≡ Some s) × (parent_entry_index g d ≡ Some j)

-- each plain entry that names a directory is its parent entry
abbrev pub NoExtraneous : Graph → Type 0
NoExtraneous g = (s j d : ℕ) → is_naming_entry_at g s j d ≡ true → g.is_dir d ≡ true → IsParentEntry g s j d

-- each directory but 2 is named by one plain entry, and 2 by none
pub record LinksRight (g : Graph) : Type 0 where
  pub once : (d : ℕ) → g.is_dir d ≡ true → d ≢ ROOTINO → IsNamedOnce g d
  pub root : (s j : ℕ) → is_naming_entry_at g s j ROOTINO ≡ false
