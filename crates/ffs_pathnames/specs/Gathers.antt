-- What is gathered for the messages on an entry and on a directory.
use Rattle.std.specs.Prelude.{◌≡◌, ℕ, ◌<◌, Bool, true, false, IsTrue, List, vec_len, ◌+◌, ◌≤◌, Result, IfOk, OnOk}
use Rattle.std.specs.Prelude.{if◌then◌else◌}
use Rattle.ffs_workspace.specs.{Moments.work_moment, declared.workspace.Workspace.Workspace, Lengths.IsFor}
use Rattle.ffs_workspace.specs.Holds.{HoldsBlockCheck, HoldsSurvey}
use Rattle.ffs_image.specs.{Device.ForContents, declared.image.{Image.Ghosts, ImageFault.ImageFault}, Known.ForBytes}
use Rattle.ffs_volume.specs.{Messages.Kinds.TreeMessage, Directories.{Volumes.volume_of, Entries.Entry}}
use Rattle.ffs_volume.specs.declared.{Attr.Attr, Layout.Layout, verdict.Verdict.{Verdict, TheVariants.Named}}
use Rattle.ffs_volume.specs.declared.verdict.Verdict.TheVariants.{OutOfRange, BadWhiteout, Whiteout, Unallocated}
use Rattle.ffs_volume.specs.Directories.{Naming.graph_of, Paths.{dir_path, entry_path}, Roles.{Volume, RoledEntry}}
use Rattle.ffs_volume.specs.Directories.PathnameCheck.{attributes, extra_lines, plain_lines, verdict_lines}
use Rattle.ffs_volume.specs.Report.Reads.{line_reads, path_reads}
use Rattle.ffs_layout.specs.Entry.{entry_value}
use Rattle.ffs_paths.specs.{DirectoryPaths.IsPathOf, KeptParents.{kept_moment, StoresChild, PathLeaves, SparesReads}}
use Rattle.ffs_paths.specs.{LastPaths.last_path, Reads.{KnowsPlaces, OnlyReadsFew}}
use Rattle.ffs_paths.specs.declared.{entry_paths.EntryPaths.EntryPaths, kept_parent.KeptParent.KeptParent}
use Rattle.ffs_pathnames.specs.{KnowsAtDirectory.{KnowsAtDirectory, KeepsPath, KnowsPath}, Ready.LimitedPathLeaves}
use Rattle.ffs_pathnames.specs.declared.{gather.DirectoryEntry.DirectoryEntry, entry_texts.EntryTexts.EntryTexts}
use Rattle.ffs_pathnames.specs.{PassedNames.{roled_reported, verdict_at_reading}, LineReads.ReadsPathOnce}
use Rattle.ffs_pathnames.specs.Sees.{passed_of}

-- the messages are the same as with the volume's own attributes and paths
abbrev pub IsEnough : Volume → Verdict → (dir number : ℕ) → List ℕ → Attr → (path directory : List ℕ) → Type 0
IsEnough vol verdict dir number name attr path directory =
    verdict_lines verdict number attr path directory
    ≡ verdict_lines verdict number (attributes vol number) (entry_path (graph_of vol) dir name)
    (dir_path (graph_of vol) number)

-- an entry with its role
abbrev pub roled_value : DirectoryEntry → RoledEntry
roled_value e = record { role = e.role; entry = entry_value e.entry }

-- what is reported of an entry, by what a workspace remembers
abbrev pub roled_lines_by : Volume → Workspace → DirectoryEntry → List TreeMessage
roled_lines_by vol w e = roled_reported vol e.dir (passed_of w) (roled_value e)

-- what is reported of a plain entry, and of an extra one
abbrev pub plain_lines_by : Volume → Workspace → DirectoryEntry → List TreeMessage
plain_lines_by vol w e =
    plain_lines vol e.dir (entry_value e.entry) (verdict_at_reading vol e.dir (passed_of w) (entry_value e.entry))

abbrev pub extra_reported : Volume → DirectoryEntry → List TreeMessage
extra_reported vol e = extra_lines (attributes vol e.dir) (dir_path (graph_of vol) e.dir) (entry_value e.entry)

-- whether the messages show the attributes of the inode that the entry names, and its path
abbrev pub asks_attr : Verdict → Bool
asks_attr OutOfRange = false
asks_attr BadWhiteout = false
asks_attr Whiteout = false
asks_attr Unallocated = true
asks_attr (Named defects) = true

abbrev pub asks_path : Verdict → Bool
asks_path OutOfRange = false
asks_path BadWhiteout = false
asks_path Whiteout = false
asks_path Unallocated = false
asks_path (Named defects) = defects.extraneous

-- so many reads where they are wanted, else none
abbrev pub if_wanted : Bool → ℕ → ℕ
if_wanted wanted reads = if wanted then reads else 0

-- the most reads for what the messages show, where the path of the entry's directory is made
abbrev pub verdict_reads : Verdict → ℕ
verdict_reads verdict = if_wanted (asks_path verdict) path_reads + if_wanted (asks_attr verdict) 1

-- this is the verdict on an entry, by the bytes of any volume for which the workspace holds what is right.
-- Where it asks for attributes, the inode is there
pub record IsVerdictIn (w : Workspace) (dir : ℕ) (e : Entry) (answer : Verdict) : Type 0 where
  pub below : IsTrue (asks_attr answer) → e.number < vec_len w.kinds
  pub verdict : (v : Layout) (b : List ℕ) → IsFor v w → HoldsBlockCheck v b w → HoldsSurvey v b w
      → answer ≡ verdict_at_reading (volume_of v b) dir (passed_of w) e

-- what calls gather that messages show; they only read the image. A clause gives the image before the call and
-- after it (`old new`), then the workspaces (`w w'`): a path that is settled leaves the very image (`BeginsPath`)
module _ {S : Type 0} (I : Ghosts S) (v : Layout) (old new : S) (w w' : Workspace) where
  -- what calls leave that make at most n reads, paths among them
  abbrev pub ReadsForPaths : {T : Type 0} → ℕ → KeptParent → Result T ImageFault → Type 0
  ReadsForPaths n s result =
      LimitedPathLeaves v n (work_moment I old w) (work_moment I new w') s result

  -- the attributes of the inode x are read, in one read at most
  pub record ReadsAttr (x : ℕ) (result : Result Attr ImageFault) : Type 0 where
    pub attr : IfOk result (λ a. ForContents (I.device old).contents (λ b. a ≡ attributes (volume_of v b) x))
    pub reads : OnlyReadsFew v 1 (work_moment I old w) (work_moment I new w') result

  -- so many reads were made at most, where each place is noted
  abbrev pub ReadsByPlaces : (most : ℕ) → Type 0
  ReadsByPlaces most = (b : List ℕ) → KnowsPlaces v (I.device old).contents w b → I.reads new ≤ I.reads old + most

  -- the path of the directory `dir` is made, and settled; also where that fails, a settled one is that of `dir`
  pub record MakesPath {T : Type 0} (dir : ℕ) (t t' : EntryTexts) (result : Result T ImageFault) : Type 0 where
    pub settled : OnOk result (IsTrue t'.path_settled)
    pub stays : IsTrue t.path_settled → IsTrue t'.path_settled
    pub made : OnOk result (ForBytes (KnowsPath v (I.device old).contents w dir t) (λ b.
        IsPathOf (graph_of (volume_of v b)) dir t'.paths.directory))
    pub path : KeepsPath v (I.device old) w dir t t'
    pub leaves : PathLeaves v path_reads (work_moment I old w) (work_moment I new w') t'.kept_parent result

  -- a path of the directory `dir` spares the reads of what is kept, and leaves that for the next, whichever
  -- directory y is checked
  pub record SparesPath {T : Type 0} (dir : ℕ) (s s' : KeptParent) (result : Result T ImageFault) : Type 0 where
    pub reads : SparesReads v dir (kept_moment I old w s) (kept_moment I new w' s')
    pub keeps : OnOk result ((y : ℕ) → ForBytes (KnowsAtDirectory v (I.device old).contents w y)
        (λ b. StoresChild w dir s s'))

  -- the path is made, with at most `path_reads` reads of any image
  pub record MakesPathLimited {T : Type 0} (dir : ℕ) (t t' : EntryTexts) (result : Result T ImageFault) : Type 0 where
    pub makes : MakesPath dir t t' result
    pub most : I.reads new ≤ I.reads old + path_reads

  -- the same, and where a path was settled nothing is read, and that path stays
  pub record BeginsPath {T : Type 0} (dir : ℕ) (t t' : EntryTexts) (result : Result T ImageFault) : Type 0 where
    pub makes : MakesPathLimited dir t t' result
    pub held : IsTrue t.path_settled → (new ≡ old) × (w' ≡ w) × (t' ≡ t)

  -- what a line on an entry shows was read: the path of the directory is settled, and stays so; where it was
  -- settled before, n reads were made at most; and that path is read for once
  pub record BeginsOnce {T : Type 0} (n : ℕ) (t t' : EntryTexts) (result : Result T ImageFault) : Type 0 where
    pub settled : OnOk result (IsTrue t'.path_settled)
    pub stays : IsTrue t.path_settled → IsTrue t'.path_settled
    pub again : IsTrue t.path_settled → ReadsByPlaces n
    pub once : (b : List ℕ) → KnowsPlaces v (I.device old).contents w b
        → ReadsPathOnce 1 t t' (I.reads old) (I.reads new)

  -- the path of the directory `dir` is put into a text, whichever directory y is checked
  pub record PutsPath {T : Type 0} (dir : ℕ) (text : List ℕ) (s : KeptParent) (result : Result T ImageFault)
      : Type 0 where
    pub path : OnOk result ((y : ℕ) → ForBytes (KnowsAtDirectory v (I.device old).contents w y) (λ b.
        text ≡ dir_path (graph_of (volume_of v b)) dir))
    pub leaves : ReadsForPaths path_reads s result

  -- the same, where it is wanted, and else nothing is read; the paths of entries and of their directory stay
  pub record PutsWanted {T : Type 0} (wanted : Bool) (dir : ℕ) (t t' : EntryTexts) (result : Result T ImageFault)
      : Type 0 where
    pub path : OnOk result ((y : ℕ) → ForBytes (KnowsAtDirectory v (I.device old).contents w y) (λ b.
        IsTrue wanted → t'.shown_directory.items ≡ dir_path (graph_of (volume_of v b)) dir))
    pub same : (t'.path_settled ≡ t.path_settled) × (t'.paths ≡ t.paths)
    pub leaves : ReadsForPaths (if_wanted wanted path_reads) t'.kept_parent result

  -- all that messages of a verdict on an entry show but paths of directories, in one read at most, if
  -- they show attributes; the path of the entry's directory stays
  pub record GathersOwnPathAndAttr (e : Entry) (verdict : Verdict) (p p' : EntryPaths) (result : Result Attr ImageFault)
      : Type 0 where
    pub enough : IfOk result (λ a. ForContents (I.device old).contents (λ b. (dir : ℕ) (path : List ℕ)
        → IsPathOf (graph_of (volume_of v b)) dir p.directory
        → (IsTrue (asks_path verdict) → path ≡ dir_path (graph_of (volume_of v b)) e.number)
        → IsEnough (volume_of v b) verdict dir e.number e.name a (last_path p') path))
    pub same : p'.directory ≡ p.directory
    pub reads : OnlyReadsFew v (if_wanted (asks_attr verdict) 1) (work_moment I old w) (work_moment I new w') result

  -- all that messages of a verdict on an entry show, where the path of its directory is made; that stays
  pub record GathersPathsAndAttr (e : Entry) (verdict : Verdict) (t t' : EntryTexts) (result : Result Attr ImageFault)
      : Type 0 where
    pub enough : IfOk result (λ a. (dir : ℕ) → ForBytes (KnowsAtDirectory v (I.device old).contents w dir) (λ b.
        IsPathOf (graph_of (volume_of v b)) dir t.paths.directory
        → IsEnough (volume_of v b) verdict dir e.number e.name a (last_path t'.paths) t'.shown_directory.items))
    pub same : (t'.path_settled ≡ t.path_settled) × (t'.paths.directory ≡ t.paths.directory)
    pub leaves : ReadsForPaths (verdict_reads verdict) t'.kept_parent result

  -- all that messages of a verdict on an entry show; the path that is settled, if any, still is that of its
  -- directory, and is made once
  pub record GathersEntry (e : DirectoryEntry) (verdict : Verdict) (t t' : EntryTexts) (result : Result Attr ImageFault)
      : Type 0 where
    pub enough : IfOk result (λ a. ForBytes (KnowsPath v (I.device old).contents w e.dir t) (λ b.
        IsEnough (volume_of v b) verdict e.dir e.entry.number e.entry.name.now a (last_path t'.paths)
        t'.shown_directory.items))
    pub path : KeepsPath v (I.device old) w e.dir t t'
    pub once : BeginsOnce (verdict_reads verdict) t t' result
    pub leaves : ReadsForPaths line_reads t'.kept_parent result

  -- what the message on an extra entry of the directory `dir` shows: its attributes and its path; the
  -- path that is settled, if any, still is that of `dir`, and is made once
  pub record GathersExtra (dir : ℕ) (t t' : EntryTexts) (result : Result Attr ImageFault) : Type 0 where
    pub attr : IfOk result (λ a. ForBytes (KnowsAtDirectory v (I.device old).contents w dir) (λ b.
        a ≡ attributes (volume_of v b) dir))
    pub text : OnOk result (ForBytes (KnowsPath v (I.device old).contents w dir t) (λ b.
        t'.shown_directory.items ≡ dir_path (graph_of (volume_of v b)) dir))
    pub path : KeepsPath v (I.device old) w dir t t'
    pub once : BeginsOnce 1 t t' result
    pub leaves : ReadsForPaths line_reads t'.kept_parent result
