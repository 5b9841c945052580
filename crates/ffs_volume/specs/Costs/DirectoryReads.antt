-- How often phase 2 reads directories, by what the volume holds.
use Rattle.std.specs.Prelude.{ℕ, zero, suc, ◌+◌, ◌*◌, Bool, true, not, ◌&&◌, ◌||◌, nat_lt, cond, List, if◌then◌else◌}
use Rattle.ffs_volume.specs.{declared.Layout.Layout, Disk.Search.some_below, Blocks.Inodes.{inode_of, inodes_of}}
use Rattle.ffs_volume.specs.{Blocks.Steps.steps_of, Costs.Calm.is_calm_directory}
use Rattle.ffs_volume.specs.Directories.{PathnameCheck.is_sized_dir, Roles.is_dir, Volumes.{marked_at, volume_of}}
use Rattle.ffs_volume.specs.Encodings.{Notes.{first_noted, note_at}, Replay.{cut_at, fresh_replay}}
use Rattle.ffs_volume.specs.Encodings.ReplayCounts.{replayed_runs}

-- the sum of the costs of those numbers below n that pass
abbrev pub costs_below : (passes : ℕ → Bool) → (cost : ℕ → ℕ) → ℕ → ℕ
costs_below passes cost zero = 0
costs_below passes cost (suc n) = costs_below passes cost n + cond (passes n) (cost n) 0

-- of all numbers below n
abbrev pub costs_all : (ℕ → ℕ) → ℕ → ℕ
costs_all cost n = costs_below (λ x. true) cost n

-- how many Runs of the inode x are seen
abbrev pub directory_runs : Layout → List ℕ → ℕ → ℕ
directory_runs v b x = replayed_runs v (cut_at v b x) fresh_replay (steps_of v (inode_of v b x) b)

-- at most how many reads a directory takes: its inode, and each of its Runs that is seen; none
-- for another inode
abbrev pub directory_cost : Layout → List ℕ → ℕ → ℕ
directory_cost v b x = if is_dir (volume_of v b) x then 1 + directory_runs v b x else 0

-- the same of all directories
abbrev pub directories_cost : Layout → List ℕ → ℕ
directories_cost v b = costs_all (directory_cost v b) (inodes_of v)

-- how many reads the inode x takes where its note is known: none, where that has a directory's only chunk
abbrev pub inode_reads : Layout → List ℕ → ℕ → ℕ
inode_reads v b x = if nat_lt (note_at v b x) first_noted then 1 else 0

-- at most how many reads a directory takes in a sweep, which knows the notes: its inode, if that is read,
-- and each of its Runs that is seen; none for another inode
abbrev pub noted_directory_cost : Layout → List ℕ → ℕ → ℕ
noted_directory_cost v b x = if is_dir (volume_of v b) x then inode_reads v b x + directory_runs v b x else 0

-- the same of all directories
abbrev pub noted_directories_cost : Layout → List ℕ → ℕ
noted_directories_cost v b = costs_all (noted_directory_cost v b) (inodes_of v)

-- d is a directory that isn't of size 0, and it is marked, or something may be reported of it
abbrev pub is_looked_at : Layout → List ℕ → ℕ → Bool
is_looked_at v b d = is_sized_dir (volume_of v b) d && (marked_at v b d || not (is_calm_directory v b d))

-- a look reads the directory's inode and its Runs; there are two at most
abbrev pub looks_cost : Layout → List ℕ → ℕ
looks_cost v b = 2 * costs_below (is_looked_at v b) (directory_cost v b) (inodes_of v)

-- the places of parent entries are noted in one sweep, where some directory is looked at
abbrev pub places_cost : Layout → List ℕ → ℕ
places_cost v b = if some_below (is_looked_at v b) (inodes_of v) then noted_directories_cost v b else 0

-- the survey is a sweep; then come the places and the looks
abbrev pub phase2_cost : Layout → List ℕ → ℕ
phase2_cost v b = noted_directories_cost v b + (places_cost v b + looks_cost v b)
