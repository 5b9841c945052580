-- A directory that is begun, and how its lines continue.
use Rattle.std.proofs.Common.{length, arith, ◌≡◌, ◌≤◌, suc, refl, sym, subst, ◌∙◌, ℕ, true, List, [], ◌++◌, map, Option}
use Rattle.std.proofs.{Common.{Err, append-nil, ltb-true}, lemmas.{List.map-append, Bool.and_parts}}
use Rattle.ffs_pathnames.proofs.{LineCounts.lines_long, LookLaws.quiet_silent, PassedLaws.{size_of, IsDirectory}}
use Rattle.ffs_pathnames.proofs.{PassedLaws.right_reported, BetweenLaws.{unstamped, looked, looked_right, quiet_next}}
use Rattle.ffs_pathnames.{proofs.BetweenLaws.reported_next, specs.declared.look.FirstLook.FirstLook}
use Rattle.ffs_pathnames.specs.{DirectoryLooks.{IsFirstLook, LeavesAllButDue, StampsOwn}, HeaderValues.AreFirstTwo}
use Rattle.ffs_pathnames.specs.{Begins.IsDirectoryBegun, PassedRight.RemembersBefore, PassedNames.PassedNames}
use Rattle.ffs_pathnames.specs.PassedNames.{are_quiet, entries_reported, after_entries}
use Rattle.ffs_volume.specs.{declared.Layout.Layout, Blocks.Inodes.inode_of, Directories.{Entries.Entry, Graph.parent}}
use Rattle.ffs_volume.specs.Directories.{Naming.graph_of, Paths.dir_path, PathnameCheck.{attributes, attributes_of}}
use Rattle.ffs_volume.specs.Directories.PathnameCheck.{sized_dir_lines, lines_of_entries, dir_header_lines}
use Rattle.ffs_volume.specs.Directories.{PathnameCheck.{header_defects, header_lines}, Roles.{Volume, is_dir}}
use Rattle.ffs_volume.specs.Directories.{Roles.{roled_entries, start_entry}, Volumes.{volume_of, volume_with}}
use Rattle.ffs_volume.specs.Messages.Kinds.{Message, TreeMessage, of_tree}
use Rattle.ffs_report.{proofs.Reporting.{reports_knowing, reports_same}, specs.Progress.Progress}
use Rattle.ffs_report.specs.{PhaseOutcome.{ImageAfter, SaidOf, PhaseReports}, declared.fault.RunFault.RunFault}
use Rattle.ffs_report.specs.declared.fault.RunFault.TheVariants.{Read, Out}
use Rattle.ffs_image.specs.{Known.ForBytes, Device.{Device, Faulted}}
use Rattle.ffs_workspace.specs.declared.workspace.Workspace.{Workspace}

-- what is said of what is known, where more is known and it has another form
pub said_same : (knows knows' : List ℕ → Type 0) (all all' : List ℕ → List Message) (a b : Progress) →
    ForBytes knows' knows → ForBytes knows' (λ bytes. all bytes ≡ all' bytes) → SaidOf knows (λ bytes. []) all a b →
    SaidOf knows' (λ bytes. []) all' a b
said_same knows knows' all all' a b more e p = grind (arith, reports_same, reports_knowing)

pub fault_same : (T E : Type 0) (knows knows' : List ℕ → Type 0) (all all' : List ℕ → List Message) (a b : Progress)
    (fault : RunFault) →
    ForBytes knows' knows → ForBytes knows' (λ bytes. all bytes ≡ all' bytes) →
    PhaseReports {T = T} knows all a b (Err fault) → PhaseReports {T = E} knows' all' a b (Err fault)
fault_same T E knows knows' all all' a b fault more e p = grind arith

-- the image after a fault is that of another answer, and of a device that is the same
pub image_same : (T E : Type 0) (d d' d'' : Device) (fault : RunFault) → d' ≡ d → ImageAfter {T = T} d' d'' (Err fault)
    → ImageAfter {T = E} d d'' (Err fault)
image_same T E d d' d'' (Read fault) e after = subst (λ x. Faulted x d'' fault.sector) e after
image_same T E d d' d'' (Out fault) e after = after ∙ e

-- what messages show of an inode of the volume
pub attr_is : (v : Layout) (b : List ℕ) (d : ℕ) → attributes (volume_of v b) d ≡ attributes_of d (inode_of v b d)
unfolding attributes volume_of volume_with
attr_is v b d = refl

-- the size of an inode of the volume
size_of_inode : (v : Layout) (b : List ℕ) (d : ℕ) → ((volume_of v b).inode d).size ≡ (inode_of v b d).size
unfolding volume_of volume_with
size_of_inode v b d = refl

-- what was found is the volume's
pub starts_are : (v : Layout) (b : List ℕ) (d : ℕ) (old : Workspace) (f : FirstLook) (start : List ℕ)
    (above : Option ℕ) (first second : Option Entry) →
    IsFirstLook v b d old f start → above ≡ parent (graph_of (volume_of v b)) d →
    AreFirstTwo first second f.chunks.started v.order start →
    header_lines (header_defects d f.inode.size above f.chunks.gap f.chunks.sound first second)
    (attributes (volume_of v b) d) (dir_path (graph_of (volume_of v b)) d) ≡ dir_header_lines (volume_of v b) d
unfolding dir_header_lines start_entry
starts_are v b d old f start above first second found p two =
    let size = size_of_inode v b d in grind arith

pub begun_is : (v : Layout) (b : List ℕ) (d : ℕ) (old new more : Workspace) (f : FirstLook) (start : List ℕ) →
    IsFirstLook v b d old f start × StampsOwn v b d old new → LeavesAllButDue old new →
    more ≡ record new { windows = more.windows } →
    IsDirectoryBegun v b d old f more
begun_is v b d old new more f start found q m = grind arith

-- a directory among the inodes
pub directory_is : (vol : Volume) (d : ℕ) → 2 ≤ d → is_dir vol d ≡ true → IsDirectory vol d
directory_is vol d two h = grind (arith, and_parts, ltb-true)

-- its lines: first those before its entries, then those of its entries
pub lines_parts : (vol : Volume) (d : ℕ) (ms : List TreeMessage) → lines_of_entries vol d 0 (roled_entries vol d) ≡ ms →
    map of_tree (sized_dir_lines vol d) ≡ map of_tree (dir_header_lines vol d) ++ map of_tree ms
unfolding sized_dir_lines
lines_parts vol d ms e = rw e (map-append of_tree (dir_header_lines vol d) ms)

pub starts_within : (vol : Volume) (d : ℕ) → length (dir_header_lines vol d) ≤ length (sized_dir_lines vol d)
starts_within vol d =
    let long = lines_long (sized_dir_lines vol d) (dir_header_lines vol d) _ (lines_parts vol d _ refl) in omega (arith, long)

pub quiet_parts : (vol : Volume) (d : ℕ) (m : PassedNames) → IsDirectory vol d → RemembersBefore vol d m →
    are_quiet vol d m.flags m.stamps (roled_entries vol d) ≡ true →
    map of_tree (dir_header_lines vol d) ≡ map of_tree (sized_dir_lines vol d)
unfolding size_of
quiet_parts vol d m dir r h =
    let none = quiet_silent [] (roled_entries vol d) m.flags m.stamps dir refl r.stamps_length r.named (unstamped vol d m r)
    h in
    sym (lines_parts vol d [] none ∙ append-nil (map of_tree (dir_header_lines vol d)))

pub reported_parts : (vol : Volume) (d : ℕ) (m m' : PassedNames) → IsDirectory vol d → RemembersBefore vol d m →
    m' ≡ looked vol d m →
    map of_tree (sized_dir_lines vol d) ≡ map of_tree (dir_header_lines vol d)
    ++ map of_tree (entries_reported vol d m' (roled_entries vol d))
unfolding size_of
reported_parts vol d m m' dir r e = rw e (lines_parts vol d _
    (right_reported [] (roled_entries vol d) (looked vol d m) dir refl (looked_right vol d m r)))

-- the names that were passed after it
pub quiet_after : (vol : Volume) (d : ℕ) (m m' : PassedNames) → RemembersBefore vol d m →
    are_quiet vol d m.flags m.stamps (roled_entries vol d) ≡ true → m' ≡ looked vol d m → RemembersBefore vol (suc d) m'
quiet_after vol d m m' r h e = rw e (quiet_next vol d m r h)

pub reported_after : (vol : Volume) (d : ℕ) (m m' m'' : PassedNames) → IsDirectory vol d → RemembersBefore vol d m →
    m' ≡ looked vol d m → after_entries vol d m' (roled_entries vol d) ≡ m'' → RemembersBefore vol (suc d) m''
reported_after vol d m m' m'' dir r e q = rw (← q, e) (reported_next vol d m dir r)
