-- What the pathname check, phase 2, reports.
use Rattle.std.specs.Prelude.{ℕ, suc, ◌%◌, ◌==◌, Bool, false, not, ◌&&◌, ◌||◌, nat_lt, if◌then◌else◌, List, [], ◌∷◌}
use Rattle.std.specs.{Prelude.{true, ◌++◌, Option, Some, None}, List.list_all}
use Rattle.ffs_volume.specs.declared.constants.TheConstants.{WINO, ROOTINO, DIRBLKSIZ, MINDIRSIZE, DT_DIR, DT_WHT}
use Rattle.ffs_volume.specs.declared.{Attr.Attr, Class.{Class, TheVariants.{Free, Partial, Unknown, File, Dir}}}
use Rattle.ffs_volume.specs.declared.{Inode.Inode, Label.{Label, TheVariants.{Dir as DirLabel, File as FileLabel}}}
use Rattle.ffs_volume.specs.declared.{Label.TheVariants.Name as NameLabel, Role.{Role, TheVariants.{Empty, Dot}}}
use Rattle.ffs_volume.specs.{declared.Role.TheVariants.{Dotdot, Extra, Plain}, Directories.Entries.{Entry, Chunk}}
use Rattle.ffs_volume.specs.{Directories.Entries.is_live, Blocks.Inodes.{type_of, is_directory, is_allocated}}
use Rattle.ffs_volume.specs.{Blocks.Inodes.is_unknown, Directories.Roles.{Volume, RoledEntry, is_dir, is_suspect}}
use Rattle.ffs_volume.specs.Directories.{Roles.{is_one_dot, is_two_dots, start_entry, roled_entries}, Graph.parent}
use Rattle.ffs_volume.specs.Directories.{Naming.{graph_of, is_first_naming_entry, is_parent_entry}, Paths.dir_path}
use Rattle.ffs_volume.specs.{Directories.Paths.entry_path, Messages.Kinds.{TreeMessage, reported, lines_below}}
use Rattle.ffs_volume.specs.Messages.Kinds.{of_directory, of_dot, of_entry}
use Rattle.ffs_volume.specs.declared.tree_lines.DirectoryLine.TheVariants.{DirCorrupt, DirHoles, DirLength, DirShort}
use Rattle.ffs_volume.specs.declared.tree_lines.DirectoryLine.TheVariants.{RootNone, RootNotDir, RootSuspect}
use Rattle.ffs_volume.specs.declared.tree_lines.DotLine.TheVariants.{ExtraDot, ExtraDotdot, TypeDot, TypeDotdot}
use Rattle.ffs_volume.specs.declared.tree_lines.DotLine.TheVariants.{MissingDot, MissingDotFirst, MissingDotdot}
use Rattle.ffs_volume.specs.declared.tree_lines.DotLine.TheVariants.{MissingDotdotSecond, NumberDot, NumberDotdot}
use Rattle.ffs_volume.specs.declared.tree_lines.EntryLine.TheVariants.{DupBad, Extraneous, TypeEntry, ZeroDir}
use Rattle.ffs_volume.specs.declared.tree_lines.EntryLine.TheVariants.{OutOfRange as OutOfRangeLine}
use Rattle.ffs_volume.specs.declared.tree_lines.EntryLine.TheVariants.{Unallocated as UnallocatedLine}
use Rattle.ffs_volume.specs.declared.tree_lines.EntryLine.TheVariants.{BadWhiteout as BadWhiteoutLine}
use Rattle.ffs_volume.specs.declared.verdict.{EntryDefects.EntryDefects, HeaderDefects.HeaderDefects}
use Rattle.ffs_volume.specs.declared.verdict.DotDefects.{DotDefects, TheVariants.{Missing, Other, Found}}
use Rattle.ffs_volume.specs.declared.verdict.Verdict.{Verdict, TheVariants.{BadWhiteout, Named, OutOfRange}}
use Rattle.ffs_volume.specs.declared.verdict.Verdict.TheVariants.{Unallocated, Whiteout}

-- what messages show of an inode of this number
abbrev pub attributes_of : ℕ → Inode → Attr
attributes_of number inode = record {
  number = number;
  uid = inode.uid;
  mode = inode.mode;
  size = inode.size;
  mtime = inode.mtime;
}

unfoldable pub attributes : Volume → ℕ → Attr
attributes vol i = attributes_of i (vol.inode i)

-- how messages call an inode
abbrev pub label_of : Class → Label
label_of Dir = DirLabel
label_of File = FileLabel
label_of Unknown = NameLabel
label_of Partial = NameLabel
label_of Free = NameLabel

-- the message on the root, by its class
abbrev pub root_lines_of : Volume → Class → List TreeMessage
root_lines_of vol Free = of_directory RootNone ∷ []
root_lines_of vol Partial = of_directory RootNone ∷ []
root_lines_of vol File = of_directory RootNotDir ∷ []
root_lines_of vol Unknown = of_directory RootNotDir ∷ []
root_lines_of vol Dir = reported (is_suspect vol ROOTINO) (of_directory RootSuspect)

-- the message on the root
unfoldable pub root_lines : Volume → List TreeMessage
root_lines vol = root_lines_of vol (vol.class ROOTINO)

-- the check continues after the root: it is a directory
abbrev pub continues_after_root : Volume → Bool
continues_after_root vol = is_directory (vol.class ROOTINO)

-- ---- a directory before its entries
-- the size is less than that of `.` and `..`
abbrev pub is_short : (size : ℕ) → Bool
is_short size = nat_lt size MINDIRSIZE

-- the size isn't less than that of `.` and `..`, and is no multiple of 512
abbrev pub has_partial_chunk : (size : ℕ) → Bool
has_partial_chunk size = not (is_short size) && not (size % DIRBLKSIZ == 0)

-- each chunk is sound
abbrev pub are_sound : List Chunk → Bool
are_sound chunks = list_all (λ c. c.sound) chunks

-- there is a parent, and it isn't n
abbrev pub is_wrong_parent : Option ℕ → (n : ℕ) → Bool
is_wrong_parent None n = false
is_wrong_parent (Some s) n = not (s == n)

-- what is wrong with `.` of the directory d, by the entry that is first. Where another live entry
-- than `..` is in its place, a message shows its name
abbrev pub dot_defects : (d : ℕ) → Option Entry → DotDefects (List ℕ)
dot_defects d None = Missing
dot_defects d (Some e) =
    if not (is_live e) then Missing
    else (if is_one_dot e.name then Found (not (e.number == d)) (not (e.kind == DT_DIR))
    else (if is_two_dots e.name then Missing else Other e.name))

-- what is wrong with `..`, by the entry that is second. Where another live entry than `.` is in its
-- place, a message shows its name
abbrev pub dotdot_defects : (parent : Option ℕ) → Option Entry → DotDefects (List ℕ)
dotdot_defects parent None = Missing
dotdot_defects parent (Some e) =
    if not (is_live e) then Missing
    else (if is_two_dots e.name then Found (is_wrong_parent parent e.number) (not (e.kind == DT_DIR))
    else (if is_one_dot e.name then Missing else Other e.name))

-- what is wrong with the directory d of this size and parent, by whether a Gap of it is kept,
-- whether its chunks are sound, and by its first two entries
unfoldable pub header_defects : (d size : ℕ) (parent : Option ℕ) (gap sound : Bool) (first second : Option Entry)
    → HeaderDefects (List ℕ)
header_defects d size parent gap sound first second = record {
  short = is_short size;
  partial_chunk = has_partial_chunk size;
  gap = gap;
  unsound = not sound;
  dot = dot_defects d first;
  dotdot = dotdot_defects parent second;
}

-- the messages on a directory of these attributes and this path: on its size; on its Gaps and chunks;
-- on `.`, and on `..`
abbrev pub size_lines : HeaderDefects (List ℕ) → Attr → (path : List ℕ) → List TreeMessage
size_lines defects attr path = reported defects.short (of_directory (DirShort attr path))
    ++ reported defects.partial_chunk (of_directory (DirLength path attr.size))

abbrev pub chunk_lines : HeaderDefects (List ℕ) → Attr → (path : List ℕ) → List TreeMessage
chunk_lines defects attr path = reported defects.gap (of_directory (DirHoles path))
    ++ reported defects.unsound (of_directory (DirCorrupt attr path))

abbrev pub dot_lines : DotDefects (List ℕ) → Attr → (path : List ℕ) → List TreeMessage
dot_lines Missing attr path = of_dot (MissingDot attr path) ∷ []
dot_lines (Other name) attr path = of_dot (MissingDotFirst attr path name) ∷ []
dot_lines (Found wrong_number wrong_type) attr path = reported wrong_number (of_dot (NumberDot attr path))
    ++ reported wrong_type (of_dot (TypeDot attr path))

abbrev pub dotdot_lines : DotDefects (List ℕ) → Attr → (path : List ℕ) → List TreeMessage
dotdot_lines Missing attr path = of_dot (MissingDotdot attr path) ∷ []
dotdot_lines (Other name) attr path = of_dot (MissingDotdotSecond attr path name) ∷ []
dotdot_lines (Found wrong_number wrong_type) attr path = reported wrong_number (of_dot (NumberDotdot attr path))
    ++ reported wrong_type (of_dot (TypeDotdot attr path))

abbrev pub dots_lines : HeaderDefects (List ℕ) → Attr → (path : List ℕ) → List TreeMessage
dots_lines defects attr path = dot_lines defects.dot attr path ++ dotdot_lines defects.dotdot attr path

-- all messages on a directory before those of its entries: on its size, its chunks, `.` and `..`
unfoldable pub header_lines : HeaderDefects (List ℕ) → Attr → (path : List ℕ) → List TreeMessage
header_lines defects attr path =
    size_lines defects attr path ++ (chunk_lines defects attr path ++ dots_lines defects attr path)

-- what is wrong with `.` or `..`, or with all before the entries, has no message
abbrev pub is_dot_silent : {P : Type 0} → DotDefects P → Bool
is_dot_silent Missing = false
is_dot_silent (Other name) = false
is_dot_silent (Found wrong_number wrong_type) = not (wrong_number || wrong_type)

abbrev pub is_header_silent : {P : Type 0} → HeaderDefects P → Bool
is_header_silent defects =
    not (defects.short || (defects.partial_chunk || (defects.gap || defects.unsound)))
    && (is_dot_silent defects.dot && is_dot_silent defects.dotdot)

-- what is wrong with the directory d of a volume before its entries, and the messages on that
abbrev pub header_of : Volume → (d : ℕ) → HeaderDefects (List ℕ)
header_of vol d =
    header_defects d (vol.inode d).size (parent (graph_of vol) d) (vol.gap d) (are_sound (vol.chunks d))
    (start_entry vol d 0) (start_entry vol d 1)

unfoldable pub dir_header_lines : Volume → (d : ℕ) → List TreeMessage
dir_header_lines vol d = header_lines (header_of vol d) (attributes vol d) (dir_path (graph_of vol) d)

-- ---- an extra entry
abbrev pub extra_lines : Attr → List ℕ → Entry → List TreeMessage
extra_lines attr path e =
    if is_one_dot e.name then of_dot (ExtraDot attr path) ∷ [] else of_dot (ExtraDotdot attr path) ∷ []

-- ---- a plain entry
-- the entry has the number of a whiteout, WINO, without its type, DT_WHT, or the type without the
-- number. A whiteout hides a name of the file system below in a union mount, and names no inode
abbrev pub is_bad_whiteout : Entry → Bool
is_bad_whiteout e =
    ((e.number == WINO) && not (e.kind == DT_WHT)) || ((e.kind == DT_WHT) && not (e.number == WINO))

-- x is a suspect other than the root, and no plain entry before this one names it (`first_naming`)
abbrev pub is_first_of_suspect : (vol : Volume) (first_naming : Bool) (x : ℕ) → Bool
is_first_of_suspect vol first_naming x = is_suspect vol x && (not (x == ROOTINO) && first_naming)

-- x is a directory, and this entry, which names it, isn't its parent entry (`parent_entry` says whether it is)
abbrev pub is_extraneous : (vol : Volume) (parent_entry : Bool) (x : ℕ) → Bool
is_extraneous vol parent_entry x = is_dir vol x && not parent_entry

-- the class of the inode isn't Unknown, and the entry has a type other than the inode's
abbrev pub has_wrong_type : Volume → Entry → Bool
has_wrong_type vol e = not (is_unknown (vol.class e.number)) && not (e.kind == type_of (vol.inode e.number).mode)

-- what is wrong with a plain entry that names an allocated inode, and what messages on it show
abbrev pub defects_on : (vol : Volume) (first_naming parent_entry : Bool) → Entry → EntryDefects
defects_on vol first_naming parent_entry e = record {
  first_of_suspect = is_first_of_suspect vol first_naming e.number;
  marked = vol.marked e.number;
  extraneous = is_extraneous vol parent_entry e.number;
  wrong_type = has_wrong_type vol e;
  label = label_of (vol.class e.number);
}

-- the verdict on a plain entry: `first_naming` says that no plain entry before it names its
-- inode, and `parent_entry` that it is its parent entry
abbrev pub verdict_on : (vol : Volume) (first_naming parent_entry : Bool) → Entry → Verdict
verdict_on vol first_naming parent_entry e =
    if not (nat_lt e.number vol.count) then OutOfRange
    else (if is_bad_whiteout e then BadWhiteout
    else (if e.number == WINO then Whiteout
    else (if not (is_allocated (vol.class e.number)) then Unallocated
    else Named (defects_on vol first_naming parent_entry e))))

-- the message on a suspect: DUP/BAD where it is marked, else ZERO LENGTH DIRECTORY
abbrev pub suspect_message : EntryDefects → Attr → (path : List ℕ) → TreeMessage
suspect_message defects attr path =
    if defects.marked then of_entry (DupBad defects.label attr path) else of_entry (ZeroDir attr path)

-- the messages by a verdict: `number` and `attr` are the inode's number and attributes, `path` is
-- the entry's, and `directory` that of the inode where it is a directory
abbrev pub name_and_type_lines : EntryDefects → Attr → (path directory : List ℕ) → List TreeMessage
name_and_type_lines defects attr path directory =
    reported defects.extraneous (of_entry (Extraneous path directory))
    ++ reported defects.wrong_type (of_entry (TypeEntry defects.label attr path))

abbrev pub defects_lines : EntryDefects → Attr → (path directory : List ℕ) → List TreeMessage
defects_lines defects attr path directory =
    reported defects.first_of_suspect (suspect_message defects attr path)
    ++ name_and_type_lines defects attr path directory

abbrev pub verdict_lines : Verdict → (number : ℕ) → Attr → (path directory : List ℕ) → List TreeMessage
verdict_lines OutOfRange number attr path directory = of_entry (OutOfRangeLine number path) ∷ []
verdict_lines BadWhiteout number attr path directory = of_entry (BadWhiteoutLine number path) ∷ []
verdict_lines Whiteout number attr path directory = []
verdict_lines Unallocated number attr path directory = of_entry (UnallocatedLine attr path) ∷ []
verdict_lines (Named defects) number attr path directory = defects_lines defects attr path directory

-- the verdict has no message
abbrev pub is_silent : Verdict → Bool
is_silent OutOfRange = false
is_silent BadWhiteout = false
is_silent Whiteout = true
is_silent Unallocated = false
is_silent (Named defects) = not (defects.first_of_suspect || (defects.extraneous || defects.wrong_type))

-- ---- the entries of a directory
-- the verdict on an entry at index j of the directory d
unfoldable pub plain_verdict : (vol : Volume) (d j : ℕ) → Entry → Verdict
plain_verdict vol d j e =
    verdict_on vol (is_first_naming_entry (graph_of vol) d j e.number) (is_parent_entry (graph_of vol) d j e.number) e

-- the messages on a plain entry of d, by the verdict on it
abbrev pub plain_lines : (vol : Volume) (d : ℕ) → Entry → Verdict → List TreeMessage
plain_lines vol d e verdict =
    verdict_lines verdict e.number (attributes vol e.number) (entry_path (graph_of vol) d e.name)
    (dir_path (graph_of vol) e.number)

-- the messages on an entry of d by its role, and by the verdict on it, if it is plain
abbrev pub role_lines : (vol : Volume) (d : ℕ) → Role → Entry → Verdict → List TreeMessage
role_lines vol d Empty e verdict = []
role_lines vol d Dot e verdict = []
role_lines vol d Dotdot e verdict = []
role_lines vol d Extra e verdict = extra_lines (attributes vol d) (dir_path (graph_of vol) d) e
role_lines vol d Plain e verdict = plain_lines vol d e verdict

-- an entry of this role, with this verdict, has no message
abbrev pub is_role_silent : Role → Verdict → Bool
is_role_silent Empty verdict = true
is_role_silent Dot verdict = true
is_role_silent Dotdot verdict = true
is_role_silent Extra verdict = false
is_role_silent Plain verdict = is_silent verdict

-- the messages on an entry at index j of the directory d
unfoldable pub entry_lines : (vol : Volume) (d j : ℕ) (e : RoledEntry) → List TreeMessage
entry_lines vol d j e = role_lines vol d e.role e.entry (plain_verdict vol d j e.entry)

-- the messages on the entries of d from index j on
unfoldable pub lines_of_entries : (vol : Volume) (d j : ℕ) (es : List RoledEntry) → List TreeMessage
lines_of_entries vol d j [] = []
lines_of_entries vol d j (e ∷ es) = entry_lines vol d j e ++ lines_of_entries vol d (suc j) es

-- the messages on a directory whose size isn't 0
unfoldable pub sized_dir_lines : Volume → ℕ → List TreeMessage
sized_dir_lines vol d = dir_header_lines vol d ++ lines_of_entries vol d 0 (roled_entries vol d)

-- d is a directory whose size isn't 0
abbrev pub is_sized_dir : Volume → ℕ → Bool
is_sized_dir vol d = is_dir vol d && not ((vol.inode d).size == 0)

-- the messages on d: none where d is no directory, or has the size 0
abbrev pub directory_lines : Volume → ℕ → List TreeMessage
directory_lines vol d = if is_sized_dir vol d then sized_dir_lines vol d else []

-- the whole pathname check: the root, and then each directory
unfoldable pub pathname_lines : Volume → List TreeMessage
pathname_lines vol =
    root_lines vol ++ (if continues_after_root vol then lines_below (directory_lines vol) vol.count else [])
