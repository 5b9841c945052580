-- The lines of inodes, one after another.
use Rattle.std.proofs.Common.{◌≡◌, ◌∙◌, ℕ, ◌+◌, ◌-◌, ◌<◌, ◌≤◌, Bool, false, List, [], ◌++◌, arith, refl}
use Rattle.std.{specs.List.{flat_map, range_with_len}}
use Rattle.ffs_volume.proofs.{CutLaws.cut_is, OwnerLaws.before_next, ReplayLaws.replay_is_runs}
use Rattle.ffs_volume.specs.Blocks.{Claims.{at_next_inode, after_steps}, KeptSteps.claims_before, Inodes.inode_of}
use Rattle.ffs_volume.specs.Blocks.Inodes.{class_of, is_allocated, is_file_or_dir, inodes_of}
use Rattle.ffs_volume.specs.{Directories.Volumes.{class_at}, Encodings.Kinds.kind_at}
use Rattle.ffs_volume.specs.declared.Class.{Class, TheVariants.{Free, Partial, Unknown, File, Dir}}
use Rattle.ffs_volume.specs.{Blocks.{Owners.owner_of, Steps.steps_of}, Encodings.Replay.{cut_of, fresh_replay}}
use Rattle.ffs_volume.specs.{Encodings.ReplayCounts.replayed_runs, Laws.Geometry.IsAcceptedLayout}
use Rattle.ffs_volume.specs.{declared.Layout.Layout, Find.Owner.{keeper_lines, keeper_lines_of_inode}}
use Rattle.ffs_volume.specs.Encodings.Notes.{cut_in, note_at}
use Rattle.ffs_workspace.proofs.{KindLaws.reports_at, NoteLaws.cut_is_noted}
use Rattle.ffs_claims.proofs.Numbers.{is_inside}
use Rattle.ffs_walk.specs.SeenRuns.{seen_runs}
use Rattle.ffs_finding.{specs.Keepers.{is_fixed_fragment, lines_of_runs, owner_reads}, proofs.Replayed.inode_replay}
use Rattle.ffs_volume.specs.Report.Reads.{sweep_reads}
use Rattle.std.{proofs.lemmas.Bool.Decides.nat_tests, specs.Prelude.if◌then◌else◌}

-- the lines of the inodes from n on
unfoldable pub keepers_from : (v : Layout) (b : List ℕ) (f n : ℕ) → List (List ℕ)
keepers_from v b f n = flat_map (keeper_lines_of_inode v b f) (range_with_len n (inodes_of v - n))

pub keepers_begin : (v : Layout) (b : List ℕ) (f : ℕ) → keepers_from v b f 2 ≡ keeper_lines v b f
unfolding keepers_from keeper_lines
keepers_begin v b f = refl

pub keepers_end : (v : Layout) (b : List ℕ) (f n : ℕ) → inodes_of v ≤ n → keepers_from v b f n ≡ []
unfolding keepers_from
keepers_end v b f n past = let none : inodes_of v - n ≡ 0 = omega arith in rw none refl

pub keepers_next : (v : Layout) (b : List ℕ) (f n : ℕ) → n < inodes_of v →
    keepers_from v b f n ≡ keeper_lines_of_inode v b f n ++ keepers_from v b f (n + 1)
unfolding keepers_from
keepers_next v b f n low = grind arith

-- the cut that is noted is the one with which the inode ends
cut_ends : (v : Layout) (b : List ℕ) (n note : ℕ) → IsAcceptedLayout v → 2 ≤ n → n < inodes_of v →
    note ≡ note_at v b n →
    cut_in note ≡ cut_of (after_steps v (at_next_inode (claims_before v b n)) (steps_of v (inode_of v b n) b))
cut_ends v b n note g low high e = grind (arith, cut_is_noted, cut_is)

-- the lines of an inode, replayed by its noted cut
pub listed_inode : (v : Layout) (b : List ℕ) (f n note : ℕ) → IsAcceptedLayout v → 2 ≤ n → n < inodes_of v →
    note ≡ note_at v b n → lines_of_runs f n 0 (seen_runs v (cut_in note) fresh_replay (steps_of v (inode_of v b n) b))
    ≡ keeper_lines_of_inode v b f n
unfolding keeper_lines_of_inode
listed_inode v b f n note g low high e = grind (arith, cut_ends, inode_replay)

-- and its Runs
pub inode_runs : (v : Layout) (b : List ℕ) (n note : ℕ) → IsAcceptedLayout v → 2 ≤ n → n < inodes_of v →
    note ≡ note_at v b n → (claims_before v b (n + 1)).runs ≡ (claims_before v b n).runs
    + replayed_runs v (cut_in note) fresh_replay (steps_of v (inode_of v b n) b)
unfolding owner_of
inode_runs v b n note g low high e = grind (arith, before_next, cut_ends, replay_is_runs)

-- a fragment takes no more reads than the layout allows it
pub owner_reads_most : (v : Layout) (used : List Bool) (f : ℕ) →
    owner_reads v used f ≤ (if is_fixed_fragment v f then 0 else sweep_reads v)
owner_reads_most v used f = grind (arith, nat_tests)

-- ---- an inode that isn't allocated
not_walked : (c : Class) → is_allocated c ≡ false → is_file_or_dir c ≡ false
not_walked Free e = refl
not_walked Partial e = refl
not_walked Unknown e = refl
not_walked File e = e
not_walked Dir e = e

class_there : (v : Layout) (b : List ℕ) (n : ℕ) → 2 ≤ n → n < inodes_of v → class_at v b n ≡ class_of v (inode_of v b n)
class_there v b n low high = rw (is_inside v n low high) refl

no_file : (v : Layout) (b : List ℕ) (n : ℕ) → 2 ≤ n → n < inodes_of v → kind_at v b n ≡ 0 →
    is_file_or_dir (class_of v (inode_of v b n)) ≡ false
no_file v b n low high e =
    let none : is_allocated (class_at v b n) ≡ false = (reports_at v b n).allocated ∙ rw e refl in
    not_walked (class_of v (inode_of v b n)) (rw (class_there v b n low high) at none)

no_steps : (v : Layout) (b : List ℕ) (n : ℕ) → is_file_or_dir (class_of v (inode_of v b n)) ≡ false →
    steps_of v (inode_of v b n) b ≡ []
unfolding steps_of
no_steps v b n e = rw e refl

-- it has no line
pub no_lines : (v : Layout) (b : List ℕ) (f n : ℕ) → 2 ≤ n → n < inodes_of v → kind_at v b n ≡ 0 →
    keeper_lines_of_inode v b f n ≡ []
unfolding keeper_lines_of_inode
no_lines v b f n low high e = rw (no_steps v b n (no_file v b n low high e)) refl
