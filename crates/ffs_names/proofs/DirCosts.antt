-- Laws of the reads that directories take.
use Rattle.std.proofs.Common.{◌≡◌, ◌+◌, ◌<◌, ◌≤◌, ℕ, zero, suc, true, List, refl, arith}
use Rattle.std.proofs.lemmas.Bool.Decides.{nat_tests}
use Rattle.ffs_volume.specs.{declared.{Inode.Inode, Layout.Layout}, Blocks.{Inodes.inode_of, Steps.steps_of}}
use Rattle.ffs_volume.specs.{Directories.{Roles.is_dir, Volumes.volume_of}, Encodings.Replay.{cut_at, fresh_replay}}
use Rattle.ffs_volume.specs.Encodings.{ReplayCounts.replayed_runs, Notes.{first_noted, note_at}}
use Rattle.ffs_volume.specs.Costs.DirectoryReads.{costs_all, directory_cost, directory_runs, inode_reads, noted_directory_cost}

-- a directory takes its inode and its Runs
pub cost_is : (v : Layout) (b : List ℕ) (d : ℕ) → is_dir (volume_of v b) d ≡ true →
    directory_cost v b d ≡ 1 + directory_runs v b d
cost_is v b d is = rw is refl

-- the Runs of its inode, by its cut
pub runs_are : (v : Layout) (b : List ℕ) (d : ℕ) (i : Inode) (cut : ℕ) → i ≡ inode_of v b d → cut ≡ cut_at v b d →
    replayed_runs v cut fresh_replay (steps_of v i b) ≡ directory_runs v b d
runs_are v b d i cut e c = rw (e, c) refl

-- in a sweep: its inode is read, if its only chunk isn't noted
pub noted_is : (v : Layout) (b : List ℕ) (d : ℕ) → is_dir (volume_of v b) d ≡ true →
    noted_directory_cost v b d ≡ inode_reads v b d + directory_runs v b d
noted_is v b d is = rw is refl

pub inode_read : (v : Layout) (b : List ℕ) (d note : ℕ) → note ≡ note_at v b d → note < first_noted →
    inode_reads v b d ≡ 1
inode_read v b d note noted low = grind (arith, nat_tests)

-- a sweep takes no more
pub noted_within : (v : Layout) (b : List ℕ) (d : ℕ) → noted_directory_cost v b d ≤ directory_cost v b d
noted_within v b d = grind arith

pub noted_all_within : (v : Layout) (b : List ℕ) (n : ℕ) →
    costs_all (noted_directory_cost v b) n ≤ costs_all (directory_cost v b) n
noted_all_within v b zero = omega arith
noted_all_within v b (suc n) = omega (arith, noted_all_within v b n, noted_within v b n)
