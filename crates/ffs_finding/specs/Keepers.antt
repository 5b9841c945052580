-- What the program knows of the inodes that keep an offer of a fragment, and what its parts leave.
use Rattle.std.specs.Prelude.{◌≡◌, ◌+◌, ◌<◌, ◌≤◌, ℕ, Bool, ◌&&◌, ◌||◌, List, [], ◌∷◌, ◌++◌, length, if◌then◌else◌}
use Rattle.std.specs.Prelude.{nat_le, nat_lt, slice_index, vec_len, Result}
use Rattle.ffs_volume.specs.{declared.{Inode.Inode, Layout.Layout, Step.Step}, Blocks.Inodes.{inode_of, inodes_of}}
use Rattle.ffs_volume.specs.{Blocks.Steps.steps_of, Encodings.{Replay.fresh_replay, ReplayCounts.replayed_runs}}
use Rattle.ffs_volume.specs.{Report.Whole.run_count, Groups.Records.group_block, Find.Owner.group_of_fragment}
use Rattle.ffs_volume.specs.{Find.Owner.{keeper_lines, keeper_text, map_text}, Encodings.Notes.cut_in}
use Rattle.ffs_volume.specs.{Disk.Areas.{FitsIn, is_reserved}, Blocks.Claims.is_set, Report.Reads.sweep_reads}
use Rattle.ffs_image.specs.{Device.{Device, ForContents}, Known.{ForBytes, IsContents}}
use Rattle.ffs_report.specs.declared.fault.RunFault.{RunFault}
use Rattle.ffs_walk.specs.{SeenRuns.{indirect_in_run, seen_runs}, Windows.WindowHolds}
use Rattle.ffs_walk.specs.declared.{seen_runs.SeenRun.SeenRun, window.Window.Window}
use Rattle.ffs_workspace.specs.{Ready.CanRead, declared.workspace.Workspace.Workspace}
use Rattle.ffs_finding.specs.{Claims.WithBlocks, Outcome.Finds, declared.owner.Sought.Sought}
use Rattle.ffs_check.specs.Moment.{Moment}

-- ---- the map of a group
-- what the map of its group says of the fragment f can be printed: the volume has f, and its group block is there
pub record CanPrintMap (v : Layout) (block : List ℕ) (f : ℕ) : Type 0 where
  pub below : f < v.size
  pub size : length block ≡ v.cgsize

-- the group block of the fragment f can be read into a window
pub record CanReadMap (v : Layout) (d : Device) (window : Window) (f : ℕ) : Type 0 where
  pub below : f < v.size
  pub volume : FitsIn v d.size
  pub room : vec_len window.buffer ≡ v.bsize
  pub holds : WindowHolds d.contents window

-- the line of a fragment that nothing claims
abbrev pub map_lines : (v : Layout) (image : List ℕ) (f : ℕ) → List (List ℕ)
map_lines v image f = map_text v (group_block v image (group_of_fragment v f)) f ∷ []

-- ---- reads
-- the layout alone says what the fragment f is: it isn't in the volume, or it is reserved
abbrev pub is_fixed_fragment : Layout → (f : ℕ) → Bool
is_fixed_fragment v f = nat_le v.size f || is_reserved v f

-- how often an image is read for the fragment f, by a map of the fragments that are used: not where the layout says
-- what it is; for a used one as often as in a sweep at most; and once for another one, for the block of its group
abbrev pub owner_reads : Layout → (used : List Bool) → (f : ℕ) → ℕ
owner_reads v used f = if is_fixed_fragment v f then 0 else (if is_set used f then sweep_reads v else 1)

-- ---- the kept offers of an inode, replayed
-- the fragment f is one of the first `taken` ones of a Run
abbrev pub is_in_run : (f start taken : ℕ) → Bool
is_in_run f start taken = nat_le start f && nat_lt f (start + taken)

-- the bytes of the line of a Run, if one of its fragments that are kept is sought. `earlier` counts the indirect
-- blocks of the inode before it
abbrev pub run_text : Sought → (earlier : ℕ) → SeenRun → List ℕ
run_text s earlier run =
    if is_in_run s.fragment run.start run.kept then keeper_text s.number earlier run.block else []

-- the line of a Run, and the lines of Runs
abbrev pub lines_of_run : (f x earlier : ℕ) → SeenRun → List (List ℕ)
lines_of_run f x earlier run =
    if is_in_run f run.start run.kept then keeper_text x earlier run.block ∷ [] else []

unfoldable pub lines_of_runs : (f x earlier : ℕ) → List SeenRun → List (List ℕ)
lines_of_runs f x earlier [] = []
lines_of_runs f x earlier (run ∷ runs) =
    lines_of_run f x earlier run ++ lines_of_runs f x (earlier + indirect_in_run run) runs

-- the lines of a fragment in an inode with this cut, whose blocks have these steps
abbrev pub sought_lines : Layout → Sought → List Step → List (List ℕ)
sought_lines v s steps = lines_of_runs s.fragment s.number 0 (seen_runs v s.cut fresh_replay steps)

-- an inode was walked over: its lines were printed, and the image was read at most once for each Run that
-- is seen
pub record FindsKeptOffers {T : Type 0} (v : Layout) (s : Sought) (inode : Inode) (old new : Moment)
    (result : Result T RunFault) : Type 0 where
  pub found : Finds (IsContents old.image.contents) (λ b. sought_lines v s (steps_of v inode b)) old new result
  pub reads : ForContents old.image.contents
      (λ b. new.reads ≤ old.reads + replayed_runs v s.cut fresh_replay (steps_of v inode b))

-- the lines of the inode x can be found
pub record CanFindKeeper (v : Layout) (d : Device) (w : Workspace) (x : ℕ) : Type 0 where
  pub ready : CanRead v d w
  pub number : x < inodes_of v

-- the fragment f and the inode x, with its cut as it is noted
abbrev pub sought_in : (f x : ℕ) → Workspace → Sought
sought_in f x w = record { fragment = f; number = x; cut = cut_in (slice_index w.notes.items x) }

-- an inode was read, and its lines were printed, with one read more
pub record FindsKeeper {T : Type 0} (v : Layout) (s : Sought) (old new : Moment) (result : Result T RunFault) :
    Type 0 where
  pub found : Finds (IsContents old.image.contents) (λ b. sought_lines v s (steps_of v (inode_of v b s.number) b))
      old new result
  pub reads : ForContents old.image.contents (λ b. new.reads ≤ old.reads + 1
      + replayed_runs v s.cut fresh_replay (steps_of v (inode_of v b s.number) b))

-- the lines of all inodes were printed, and the image was read at most once for each inode
-- and once for each Run that is seen
pub record FindsAllKeepers {T : Type 0} (v : Layout) (f : ℕ) (w : Workspace) (old new : Moment)
    (result : Result T RunFault) : Type 0 where
  pub found : Finds (WithBlocks v old.image w) (λ b. keeper_lines v b f) old new result
  pub reads : ForBytes (WithBlocks v old.image w) (λ b. new.reads ≤ old.reads + inodes_of v + run_count v b)
