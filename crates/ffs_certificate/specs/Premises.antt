-- What proofs may assume of a volume: it is no condition of consistency.
use Rattle.std.specs.Prelude.{ℕ, ◌≡◌, ◌≢◌, ◌<◌, true, false, []}
use Rattle.ffs_volume.specs.declared.{constants.TheConstants.{ROOTINO, DT_WHT}, Class.TheVariants.{Partial, Unknown}}
use Rattle.ffs_volume.specs.{Blocks.Inodes.type_of, Directories.Roles.{Volume, is_dir, is_allocated_inode}}
use Rattle.ffs_volume.specs.Directories.Roles.{roled_entries}

-- what holds of the volume of each image: there is an inode 2, a directory of size 0 has no
-- entries, and no allocated inode of a known class has the type of a whiteout
pub record IsVolume (vol : Volume) : Type 0 where
  pub some : ROOTINO < vol.count
  pub empty : (d : ℕ) → is_dir vol d ≡ true → (vol.inode d).size ≡ 0 → roled_entries vol d ≡ []
  pub kinds : (x : ℕ) → vol.class x ≢ Unknown → is_allocated_inode vol x ≡ true → type_of (vol.inode x).mode ≢ DT_WHT

-- what holds of a volume whose blocks are consistent: nothing is marked, and no inode is Unknown or Partial
pub record IsUnmarked (vol : Volume) : Type 0 where
  pub marked : (x : ℕ) → vol.marked x ≡ false
  pub known : (x : ℕ) → vol.class x ≢ Unknown
  pub whole : (x : ℕ) → vol.class x ≢ Partial
