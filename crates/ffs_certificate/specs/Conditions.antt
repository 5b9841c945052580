-- What is reported for each condition of a consistent volume.
use Rattle.std.specs.Prelude.{◌≡◌, ◌≢◌, ◌↔◌, ℕ, ◌==◌, Bool, true, false, nat_lt, List, [], Some, IsSomeAnd, Option, Ok}
use Rattle.std.specs.List.{list_all, list_any}
use Rattle.ffs_volume.specs.declared.BlockMessage.{BlockMessage, TheVariants.{PartAlloc, UnknownType}}
use Rattle.ffs_volume.specs.declared.{Role.TheVariants.{Extra, Plain}, constants.TheConstants.{DT_DIR, WINO}}
use Rattle.ffs_volume.specs.{Disk.{Superblock.Superblock, Outcome.outcome}, Blocks.Owners.owners_of}
use Rattle.ffs_volume.specs.{Blocks.BlockCheck.phase1_lines, Consistent.BlocksRight.{is_right_class, AreRunsRight}}
use Rattle.ffs_volume.specs.Consistent.{BlocksRight.BlocksRight, GroupsRight.{AreGroupsRight, is_free_of_runs}}
use Rattle.ffs_volume.specs.{Groups.GroupCheck.{phase5_lines, is_free_of_kept}, Directories.Entries.Entry}
use Rattle.ffs_volume.specs.Directories.Roles.{Volume, RoledEntry, is_dir, is_allocated_inode, roled_entries, dot}
use Rattle.ffs_volume.specs.{Directories.{Roles.{dotdot, references}, Graph.parent}, Blocks.Inodes.is_allocated}
use Rattle.ffs_volume.specs.{Directories.Naming.{graph_of, is_parent_entry, nth_roled}, Report.Opening.setting_lines}
use Rattle.ffs_volume.specs.Directories.PathnameCheck.{continues_after_root, is_short, has_partial_chunk, are_sound}
use Rattle.ffs_volume.specs.Directories.PathnameCheck.{is_wrong_parent, is_bad_whiteout, is_extraneous, has_wrong_type}
use Rattle.ffs_volume.specs.{Directories.Connectivity.is_unref_dir, Disk.Numbers.equals_natural}
use Rattle.ffs_volume.specs.Consistent.DirectoriesRight.{AreDirsRight, AreLinksRight, AreCountsRight}
use Rattle.ffs_volume.specs.Directories.Volumes.{class_at, volume_of, whole_volume}
use Rattle.ffs_volume.specs.Consistent.Volume.{AreSettingsRight}
use Rattle.ffs_certificate.specs.DirsCertificate.{IsSilent}

-- a message that speaks of an inode's class
abbrev pub is_class_message : BlockMessage → Bool
is_class_message (PartAlloc inode) = true
is_class_message (UnknownType inode) = true
is_class_message _ = false

-- The records up to `AreDirsUnreported` have the tests of the messages that say that `AreDirsRight`
-- fails. Of an entry that names an inode, neither UNALLOCATED nor BAD TYPE VALUE is reported
pub record IsNameUnreported (vol : Volume) (e : Entry) : Type 0 where
  pub allocated : is_allocated (vol.class e.number) ≡ true
  pub right_type : has_wrong_type vol e ≡ false

-- of a plain entry, these two aren't reported, and neither I OUT OF RANGE nor BAD WHITEOUT ENTRY
pub record IsPlainUnreported (vol : Volume) (e : Entry) : Type 0 where
  pub below : nat_lt e.number vol.count ≡ true
  pub no_whiteout : is_bad_whiteout e ≡ false
  pub named : (e.number == WINO) ≡ false → IsNameUnreported vol e

-- a directory isn't reported for size 0, as TOO SHORT, NOT MULTIPLE, with EMPTY BLOCKS or
-- CORRUPTED; its `.` and `..` aren't reported as MISSING, for the number of `.` or for BAD TYPE
-- VALUE; no EXTRA entry is reported, and none of the plain entries
pub record IsDirUnreported (vol : Volume) (d : ℕ) : Type 0 where
  pub some : (vol.inode d).size ≢ 0
  pub short : is_short (vol.inode d).size ≡ false
  pub broken : has_partial_chunk (vol.inode d).size ≡ false
  pub gap : vol.gap d ≡ false
  pub sound : are_sound (vol.chunks d) ≡ true
  pub dot_there : IsSomeAnd (dot vol d) (λ e. (e.number ≡ d) × (e.kind ≡ DT_DIR))
  pub dotdot_there : IsSomeAnd (dotdot vol d) (λ e. e.kind ≡ DT_DIR)
  pub no_extra : (j : ℕ) (e : RoledEntry) → nth_roled (roled_entries vol d) j ≡ Some e → e.role ≢ Extra
  pub plain : (j : ℕ) (e : RoledEntry) → nth_roled (roled_entries vol d) j ≡ Some e → e.role ≡ Plain
      → IsPlainUnreported vol e.entry

-- neither ROOT INODE UNALLOCATED nor ROOT INODE NOT DIRECTORY is reported, and no directory
pub record AreDirsUnreported (vol : Volume) : Type 0 where
  pub root : continues_after_root vol ≡ true
  pub each : (d : ℕ) → is_dir vol d ≡ true → IsDirUnreported vol d

-- none of the messages is reported that say that `AreLinksRight` fails: BAD INODE NUMBER FOR '..',
-- EXTRANEOUS HARD LINK and UNREF DIR
pub record AreLinksUnreported (vol : Volume) : Type 0 where
  pub dotdots : (d : ℕ) → is_dir vol d ≡ true
      → IsSomeAnd (dotdot vol d) (λ e. is_wrong_parent (parent (graph_of vol) d) e.number ≡ false)
  pub links : (s j : ℕ) (e : RoledEntry) → is_dir vol s ≡ true → nth_roled (roled_entries vol s) j ≡ Some e
      → e.role ≡ Plain → is_extraneous vol (is_parent_entry (graph_of vol) s j e.entry.number) e.entry.number ≡ false
  pub lost : (d : ℕ) → is_unref_dir vol d ≡ false

-- neither of the messages is reported that say that `AreCountsRight` fails of an inode: UNREF and
-- LINK COUNT
pub record IsCountUnreported (vol : Volume) (i : ℕ) : Type 0 where
  pub some : references vol i ≢ 0
  pub same : equals_natural (vol.inode i).nlink (references vol i) ≡ true

abbrev pub AreCountsUnreported : Volume → Type 0
AreCountsUnreported vol = (i : ℕ) → is_allocated_inode vol i ≡ true → IsCountUnreported vol i

-- Each condition and what is reported for it. Those of directories and groups are asked where the
-- conditions on classes and Runs hold: the volume that the checks see is then that of all steps,
-- and what is free is free of all Runs
pub record ConditionsReported (image : List ℕ) (s : Superblock) : Type 0 where
  pub settings : (setting_lines s ≡ []) ↔ AreSettingsRight s
  pub classes : (list_any is_class_message (phase1_lines s.layout (owners_of s.layout image)) ≡ false)
      ↔ (list_all (λ o. is_right_class o.class) (owners_of s.layout image) ≡ true)
  pub runs : list_all (λ o. is_right_class o.class) (owners_of s.layout image) ≡ true →
      (phase1_lines s.layout (owners_of s.layout image) ≡ []) ↔ AreRunsRight s.layout (owners_of s.layout image)
  pub whole : BlocksRight s.layout (owners_of s.layout image) → volume_of s.layout image ≡ whole_volume s.layout image
  pub checks : BlocksRight s.layout (owners_of s.layout image) → IsSilent (whole_volume s.layout image)
      ↔ (AreDirsUnreported (whole_volume s.layout image) × AreLinksUnreported (whole_volume s.layout image)
      × AreCountsUnreported (whole_volume s.layout image))
  pub dirs : BlocksRight s.layout (owners_of s.layout image) → AreDirsUnreported (whole_volume s.layout image)
      ↔ AreDirsRight (whole_volume s.layout image)
  pub links : BlocksRight s.layout (owners_of s.layout image) → AreDirsRight (whole_volume s.layout image) →
      AreLinksUnreported (whole_volume s.layout image) ↔ AreLinksRight (whole_volume s.layout image)
  pub counts : AreCountsUnreported (whole_volume s.layout image) ↔ AreCountsRight (whole_volume s.layout image)
  pub groups : BlocksRight s.layout (owners_of s.layout image) →
      (phase5_lines s.layout image s.cstotal (is_free_of_kept s.layout (owners_of s.layout image))
      (class_at s.layout image) ≡ [])
      ↔ AreGroupsRight s.layout image s.cstotal (is_free_of_runs s.layout (owners_of s.layout image))
      (class_at s.layout image)

-- for each accepted superblock
abbrev pub ConditionsAreReported : Type 0
ConditionsAreReported = (image : List ℕ) (sector : Option ℕ) (s : Superblock) → outcome image sector ≡ Ok s
    → ConditionsReported image s
