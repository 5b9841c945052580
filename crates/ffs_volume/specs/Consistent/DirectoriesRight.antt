-- When directories are consistent. Nothing here depends on the order of directories, on which entry
-- is the first to name an inode, or on parents.
use Rattle.std.specs.Prelude.{ℕ, ◌≡◌, ◌≢◌, ◌≤◌, ◌<◌, ◌%◌, true, false, pos, ◌⊎◌, IsSomeAnd, Some}
use Rattle.ffs_volume.specs.declared.constants.TheConstants.{WINO, ROOTINO, DIRBLKSIZ, DT_DIR, DT_WHT}
use Rattle.ffs_volume.specs.{declared.{Class.TheVariants.Dir, Role.TheVariants.{Extra, Plain}}, Blocks.Inodes.type_of}
use Rattle.ffs_volume.specs.Directories.{Entries.Entry, Roles.{Volume, RoledEntry, is_dir, is_allocated_inode}}
use Rattle.ffs_volume.specs.Directories.{Roles.{roled_entries, dot, dotdot, references}, Graph.reached}
use Rattle.ffs_volume.specs.Directories.{Graph.{Graph, is_naming_entry_at}, Naming.{graph_of, nth_roled}}
use Rattle.ffs_volume.specs.Directories.PathnameCheck.{are_sound}

-- a directory's size is a positive multiple of 512 bytes
pub record IsDirSize (size : ℕ) : Type 0 where
  pub some : 0 < size
  pub whole : size % DIRBLKSIZ ≡ 0

-- what a plain entry must be: a whiteout, which has the number 1 and the type DT_WHT, or an entry
-- with the number of an allocated inode and the type of that inode's mode
abbrev pub IsPlainRight : Volume → Entry → Type 0
IsPlainRight vol e =
    ((e.number ≡ WINO) × (e.kind ≡ DT_WHT))
    ⊎ ((is_allocated_inode vol e.number ≡ true) × (e.kind ≡ type_of (vol.inode e.number).mode))

-- what is asked of one directory, whatever entries others have: a valid size, no hole, well formed
-- entries that fill each chunk, `.` first with the directory's own number, `..` second, both of
-- type DT_DIR, no other of the two, and plain entries that are right. The number of `..` is asked
-- in `IsLinked`, and for the root in `AreLinksRight`
pub record IsDirRight (vol : Volume) (d : ℕ) : Type 0 where
  pub size : IsDirSize (vol.inode d).size
  pub gap : vol.gap d ≡ false
  pub sound : are_sound (vol.chunks d) ≡ true
  pub dot_there : IsSomeAnd (dot vol d) (λ e. (e.number ≡ d) × (e.kind ≡ DT_DIR))
  pub dotdot_there : IsSomeAnd (dotdot vol d) (λ e. e.kind ≡ DT_DIR)
  pub no_extra : (j : ℕ) (e : RoledEntry) → nth_roled (roled_entries vol d) j ≡ Some e → e.role ≢ Extra
  pub plain : (j : ℕ) (e : RoledEntry) → nth_roled (roled_entries vol d) j ≡ Some e → e.role ≡ Plain
      → IsPlainRight vol e.entry

-- inode 2 is a directory, and each directory holds what it should
pub record AreDirsRight (vol : Volume) : Type 0 where
  pub root : vol.class ROOTINO ≡ Dir
  pub each : (d : ℕ) → is_dir vol d ≡ true → IsDirRight vol d

-- exactly one plain entry names d: the one at this index of `in_dir`
pub record IsNamedOnce (g : Graph) (d : ℕ) : Type 0 where
  pub in_dir : ℕ
  pub index : ℕ
  pub there : is_naming_entry_at g in_dir index d ≡ true
  pub only : (s j : ℕ) → is_naming_entry_at g s j d ≡ true → (s ≡ in_dir) × (j ≡ index)

-- a directory is named by exactly one plain entry and reached from 2, and its `..` has the number
-- of the directory with that entry
pub record IsLinked (vol : Volume) (d : ℕ) : Type 0 where
  pub once : IsNamedOnce (graph_of vol) d
  pub reached_from_root : reached (graph_of vol) d ≡ true
  pub dotdot_right : IsSomeAnd (dotdot vol d) (λ e. e.number ≡ once.in_dir)

-- each directory but 2 is linked so; no plain entry names 2, and the `..` of 2 is 2
pub record AreLinksRight (vol : Volume) : Type 0 where
  pub each : (d : ℕ) → is_dir vol d ≡ true → d ≢ ROOTINO → IsLinked vol d
  pub root : (s j : ℕ) → is_naming_entry_at (graph_of vol) s j ROOTINO ≡ false
  pub root_dotdot : IsSomeAnd (dotdot vol ROOTINO) (λ e. e.number ≡ ROOTINO)

-- the count of links of an inode is that of its references, and at least 1
pub record IsCountRight (vol : Volume) (i : ℕ) : Type 0 where
  pub same : (vol.inode i).nlink ≡ pos (references vol i)
  pub some : 1 ≤ references vol i

-- the count of links of each allocated inode is right
abbrev pub AreCountsRight : Volume → Type 0
AreCountsRight vol = (i : ℕ) → is_allocated_inode vol i ≡ true → IsCountRight vol i
