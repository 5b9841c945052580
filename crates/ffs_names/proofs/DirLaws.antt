-- A reading of a directory gives the entries that the volume has there.
use Rattle.std.proofs.Common.{◌≡◌, ℕ, ◌<◌, ◌^◌, ◌==◌, Bool, true, false, not, ◌&&◌, nat_lt, if◌then◌else◌, List, arith}
use Rattle.std.proofs.{Common.{flat_map, refl, slice_index}, lemmas.Bool.{or_parts, Decides.nat_tests}}
use Rattle.ffs_volume.{proofs.CutLaws.replay_at, specs.declared.{Class.Class, Inode.Inode, Layout.Layout}}
use Rattle.ffs_volume.specs.{declared.Class.TheVariants.{Free, Partial, Unknown, File, Dir}, Blocks.Inodes.class_of}
use Rattle.ffs_volume.specs.Blocks.{Inodes.{inode_of, is_directory, type_of}, Steps.steps_of}
use Rattle.ffs_volume.specs.Directories.{Entries.{bytes_read, chunks_of, has_gap}, PathnameCheck.are_sound}
use Rattle.ffs_volume.specs.Directories.{Roles.{is_dir, roled_chunk, roled_entries}, Volumes.chunk_source_of}
use Rattle.ffs_volume.specs.{Directories.Volumes.{is_inode_number, volume_of, volume_with}, Disk.Areas.is_run_in_range}
use Rattle.ffs_volume.specs.Encodings.{Kinds.{kind_at, is_dir_at}, Replay.{cut_at, fresh_replay, replayed_steps}}
use Rattle.ffs_volume.specs.{Laws.Geometry.IsAcceptedLayout, Costs.Calm.{is_right_shape, is_right_size}}
use Rattle.ffs_workspace.proofs.KindLaws.{dir_is as kind_dir}
use Rattle.ffs_names.specs.RunCursors.{reading_by}

class_by : Bool → Bool → Bool → Bool → Class
class_by none free bad four = if none then (if free then Free else Partial)
    else (if bad then Unknown else (if four then Dir else File))

dir_by : (none free bad four : Bool) → class_by none free bad four ≡ Dir → (bad ≡ false) × (four ≡ true)
unfolding class_by
dir_by true true bad four h = cc
dir_by false free false true h = (refl, refl)
dir_by _ _ _ _ h = cc

below : (four : Bool) (size : ℕ) → four ≡ true → (four && nat_lt 2147483647 size) ≡ false → size < 2147483648
below true size e h = grind (arith, nat_tests)
below false size e h = absurd (cc)

-- a directory has less than 2^31 bytes, and the type of one
pub dir_parts : (v : Layout) (i : Inode) → class_of v i ≡ Dir → (i.size < 2 ^ 31) × ((type_of i.mode == 4) ≡ true)
unfolding class_of class_by
dir_parts v i h = grind (arith, dir_by, or_parts, below)

pub dir_size : (v : Layout) (i : Inode) → class_of v i ≡ Dir → i.size < 2 ^ 31
dir_size v i h = (dir_parts v i h).0

dir_number : (a : Bool) (c : Class) → (a && is_directory (if a then c else Free)) ≡ true → (a ≡ true) × (c ≡ Dir)
dir_number true Dir h = (refl, refl)
dir_number _ _ h = cc

pub dir_is : (v : Layout) (b : List ℕ) (d : ℕ) → is_dir (volume_of v b) d ≡ true → (is_inode_number v d ≡ true)
    × (class_of v (inode_of v b d) ≡ Dir)
unfolding volume_of volume_with
dir_is v b d h = dir_number (is_inode_number v d) (class_of v (inode_of v b d)) h

-- the entries of a directory
pub dir_seen : (v : Layout) (b : List ℕ) (d : ℕ) (i : Inode) (cut : ℕ) → IsAcceptedLayout v → is_inode_number v d ≡ true
    → i ≡ inode_of v b d → cut ≡ cut_at v b d → flat_map roled_chunk (chunks_of (reading_by v b (bytes_read i.size))
    (is_run_in_range v) (replayed_steps v cut fresh_replay (steps_of v i b))) ≡ roled_entries (volume_of v b) d
unfolding volume_of volume_with chunk_source_of roled_entries
dir_seen v b d i cut g n e c = rw (e, c, replay_at v b d g n) refl

-- kinds say which inodes are directories
pub kind_dirs : (v : Layout) (b kinds : List ℕ) (x : ℕ) → slice_index kinds x ≡ kind_at v b x →
    is_dir_at kinds x ≡ is_dir (volume_of v b) x
kind_dirs v b kinds x h = grind (arith, kind_dir)

-- the shape of a directory
pub shape_seen : (v : Layout) (b : List ℕ) (d : ℕ) (i : Inode) (cut : ℕ) → IsAcceptedLayout v → is_inode_number v d ≡
    true → i ≡ inode_of v b d → cut ≡ cut_at v b d → (is_right_size i.size && (are_sound (chunks_of (reading_by v b
    (bytes_read i.size)) (is_run_in_range v) (replayed_steps v cut fresh_replay (steps_of v i b))) && not (has_gap
    (replayed_steps v cut fresh_replay (steps_of v i b))))) ≡ is_right_shape (volume_of v b) d
unfolding volume_of volume_with chunk_source_of
shape_seen v b d i cut g n e c = rw (e, c, replay_at v b d g n) refl
