-- Chunks and entries, and what the checks of directories report of small volumes.
use Rattle.std.specs.Prelude.{◌≡◌, ℕ, ◌-◌, ◌==◌, nat_lt, List, [], ◌∷◌, ◌++◌, pos, Some, None, length, map, replicate}
use Rattle.std.specs.Prelude.{take, drop, ◌+◌, true, false, if◌then◌else◌}
use Rattle.ffs_volume.specs.declared.{Order.{Order, TheVariants.{Little, Big}}, Attr.Attr, Class.Class}
use Rattle.ffs_volume.specs.declared.{Class.TheVariants.{Free, File, Dir, Unknown}, Label.TheVariants.Dir as DirLabel}
use Rattle.ffs_volume.specs.declared.{Label.TheVariants.File as FileLabel, Role.TheVariants.{Empty, Dot, Dotdot, Extra}}
use Rattle.ffs_volume.specs.declared.{Role.TheVariants.Plain, Step.TheVariants.{Run, Tail, Gap}}
use Rattle.ffs_volume.specs.Directories.Entries.{Entry, Chunk, ChunkSource, entry_at, entries_of, is_sound, chunks_of}
use Rattle.ffs_volume.specs.Directories.{Entries.{has_gap, bytes_read}, Roles.{Volume, role_of, references}}
use Rattle.ffs_volume.specs.Directories.{Graph.{level, parent}, Naming.graph_of, Paths.{path_bytes, dir_path}}
use Rattle.ffs_volume.specs.Directories.{Paths.entry_path, PathnameCheck.pathname_lines}
use Rattle.ffs_volume.specs.Directories.{Connectivity.connectivity_lines, ReferenceCheck.reference_lines}
use Rattle.ffs_volume.specs.Examples.Images.{bytes_in, word, zero_bytes, root_chunk}
use Rattle.ffs_volume.specs.declared.tree_lines.EntryLine.TheVariants.{Extraneous, TypeEntry, OutOfRange, BadWhiteout}
use Rattle.ffs_volume.specs.declared.tree_lines.{EntryLine.TheVariants.ZeroDir, DotLine.TheVariants.ExtraDot}
use Rattle.ffs_volume.specs.declared.tree_lines.DotLine.TheVariants.{ExtraDotdot, TypeDot, TypeDotdot, MissingDot}
use Rattle.ffs_volume.specs.declared.tree_lines.DotLine.TheVariants.{MissingDotFirst, MissingDotdot}
use Rattle.ffs_volume.specs.declared.tree_lines.DotLine.TheVariants.{MissingDotdotSecond, NumberDot, NumberDotdot}
use Rattle.ffs_volume.specs.declared.tree_lines.DirectoryLine.TheVariants.{DirHoles, DirLength, DirShort, RootNone}
use Rattle.ffs_volume.specs.declared.tree_lines.DirectoryLine.TheVariants.{RootNotDir, RootSuspect}
use Rattle.ffs_volume.specs.declared.tree_lines.ReferenceLine.TheVariants.{DeadMarked, DeadZero, LinkCount, Unref}
use Rattle.ffs_volume.specs.declared.tree_lines.ReferenceLine.TheVariants.{UnrefDir, UnrefZero}
use Rattle.ffs_volume.specs.Messages.Kinds.{of_entry, of_dot, of_directory, of_reference}

-- the bytes of an entry: its number, length, type and name
unfoldable pub entry_bytes : Order → (x n kind : ℕ) → List ℕ → List ℕ
entry_bytes o x n kind name = word o x ++ (bytes_in o 2 n ++
    (kind ∷ length name ∷ (name ++ zero_bytes (n - 8 - length name))))

-- the root's chunk with other bytes after its first entry
unfoldable pub with_second_entry : Order → List ℕ → List ℕ
with_second_entry o bytes = take 12 (root_chunk o) ++ (bytes ++ drop (12 + length bytes) (root_chunk o))

-- the names `.` and `..`
abbrev pub one_dot : List ℕ
one_dot = 46 ∷ []

abbrev pub two_dots : List ℕ
two_dots = 46 ∷ 46 ∷ []

-- an entry with a record of 12 bytes, and one of 500, which fills the chunk after it
unfoldable pub entry : (x kind : ℕ) → List ℕ → Entry
entry x kind name = record { number = x; length = 12; kind = kind; name = name }

abbrev pub last_entry : (x kind : ℕ) → List ℕ → Entry
last_entry x kind name = record { number = x; length = 500; kind = kind; name = name }

-- a directory of two chunks at fragment 2, of which `read_bytes` bytes are read
unfoldable pub two_chunks : ℕ → ChunkSource
two_chunks read_bytes = record {
  order = Little;
  image = zero_bytes 1024 ++ (root_chunk Little ++ root_chunk Little);
  bsize = 4096;
  fsize = 512;
  read_bytes = read_bytes;
}

-- entries, chunks and roles
pub record EntryExamples : Type 0 where
  -- the root's chunk in both orders
  pub root : entries_of Little (root_chunk Little) ≡ entry 2 4 one_dot ∷ last_entry 2 4 two_dots ∷ []
  pub root_big : entries_of Big (root_chunk Big) ≡ entry 2 4 one_dot ∷ last_entry 2 4 two_dots ∷ []
  pub sound : is_sound Little (root_chunk Little) ≡ true
  -- no entry is inside of another one, or after the chunk
  pub inside : entry_at Little (root_chunk Little) 4 ≡ None
  pub past_chunk : entry_at Little (root_chunk Little) 512 ≡ None
  -- an entry that passes the chunk's end, has a `/`, has no NUL after its name, no name, or a type
  -- above 15
  pub too_long : entry_at Little (with_second_entry Little (word Little 2 ++ bytes_in Little 2 504)) 12 ≡ None
  pub slash : entry_at Little (with_second_entry Little (entry_bytes Little 2 12 4 (97 ∷ 47 ∷ 98 ∷ []))) 12 ≡ None
  pub no_nul : entry_at Big (with_second_entry Big (word Big 2
      ++ (bytes_in Big 2 12 ++ (4 ∷ 3 ∷ 97 ∷ 98 ∷ 99 ∷ 1 ∷ [])))) 12 ≡ None
  pub no_name : entry_at Little (with_second_entry Little (entry_bytes Little 2 12 4 [])) 12 ≡ None
  pub type_16 : entry_at Little (with_second_entry Little (entry_bytes Little 2 12 16 (97 ∷ []))) 12 ≡ None
  pub type_15 : entry_at Little (with_second_entry Little (entry_bytes Little 2 12 15 (97 ∷ []))) 12
      ≡ Some (entry 2 15 (97 ∷ []))
  -- a name of three bytes fits in 12, one of four doesn't; with the number 0 only the length is
  -- looked at
  pub three_bytes : entry_at Little (with_second_entry Little (entry_bytes Little 5 12 8 (97 ∷ 98 ∷ 99 ∷ []))) 12
      ≡ Some (entry 5 8 (97 ∷ 98 ∷ 99 ∷ []))
  pub four_bytes : entry_at Little (with_second_entry Little (word Little 5
      ++ (bytes_in Little 2 12 ++ (8 ∷ 4 ∷ 97 ∷ 98 ∷ 99 ∷ 100 ∷ [])))) 12 ≡ None
  pub unused : entry_at Little (with_second_entry Little (word Little 0 ++ (bytes_in Little 2 12 ++ (99 ∷ 200 ∷ []))))
      12
      ≡ Some (record { number = 0; length = 12; kind = 99; name = [] })
  -- the second entry has record length 0: the first alone is left, and the chunk isn't sound
  pub cut : entries_of Little (with_second_entry Little (word Little 2 ++ (0 ∷ 0 ∷ []))) ≡ entry 2 4 one_dot ∷ []
  pub cut_unsound : is_sound Little (with_second_entry Little (word Little 2 ++ (0 ∷ 0 ∷ []))) ≡ false
  -- the chunks of a Run of 1,024 bytes, read whole and in part
  pub whole : map (λ c. c.offset) (chunks_of (two_chunks 1024) (λ start len. true) (Gap ∷ Run 2 2 (Some 0) ∷ Tail ∷ []))
      ≡ 0 ∷ 512 ∷ []
  pub later : map (λ c. c.offset) (chunks_of (two_chunks 8192) (λ start len. true) (Run 2 2 (Some 1) ∷ []))
      ≡ 4096 ∷ 4608 ∷ []
  pub part : map (λ c. c.offset) (chunks_of (two_chunks 512) (λ start len. true) (Run 2 2 (Some 0) ∷ [])) ≡ 0 ∷ []
  pub not_in_range : chunks_of (two_chunks 512) (λ start len. false) (Run 2 2 (Some 0) ∷ []) ≡ []
  pub indirect : chunks_of (two_chunks 512) (λ start len. true) (Run 2 2 None ∷ []) ≡ []
  pub taken : map bytes_read (1 ∷ 23 ∷ 24 ∷ 512 ∷ 513 ∷ []) ≡ 512 ∷ 512 ∷ 512 ∷ 512 ∷ 1024 ∷ []
  pub gaps : (has_gap (Run 2 2 (Some 0) ∷ Tail ∷ []) ≡ false) × (has_gap (Run 2 2 (Some 0) ∷ Gap ∷ []) ≡ true)
  -- `..` is second in the first chunk, and `.` first
  pub roles : map (λ i. role_of true i (entry 2 4 one_dot)) (0 ∷ 1 ∷ []) ≡ Dot ∷ Extra ∷ []
  pub roles_dotdot : map (λ i. role_of true i (entry 2 4 two_dots)) (0 ∷ 1 ∷ 2 ∷ []) ≡ Extra ∷ Dotdot ∷ Extra ∷ []
  pub roles_later : map (λ i. role_of false i (entry 2 4 one_dot)) (0 ∷ 1 ∷ []) ≡ Extra ∷ Extra ∷ []
  pub roles_plain : (role_of true 0 (entry 2 4 (97 ∷ [])) ≡ Plain) × (role_of true 0 (entry 0 4 one_dot) ≡ Empty)

-- `.`, `..` and further entries
unfoldable pub dots : (d up : ℕ) → List Entry → List Entry
dots d up rest = entry d 4 one_dot ∷ entry up 4 two_dots ∷ rest

-- one chunk, which these entries fill
unfoldable pub whole_chunk : List Entry → List Chunk
whole_chunk es = record { offset = 0; entries = es; sound = true } ∷ []

-- the inodes from 2 to n - 1 are directories
unfoldable pub class_with_dirs_below : ℕ → ℕ → Class
class_with_dirs_below n i = if nat_lt i 2 then Free else (if nat_lt i n then Dir else Free)

-- a volume of directories with one chunk each: those from 2 to n - 1, of 512 bytes, with these
-- counts of links and these entries
unfoldable pub small : ℕ → (ℕ → ℕ) → (ℕ → List Entry) → Volume
small n links es = record {
  count = n;
  class = class_with_dirs_below n;
  inode = λ i. record {
    mode = 16877;
    nlink = pos (links i);
    size = 512;
    uid = 0;
    mtime = pos 0;
    addresses = [];
    blocks = 0;
  };
  gap = λ i. false;
  chunks = λ i. whole_chunk (es i);
  marked = λ i. false;
}

-- what messages show of a directory of `small`
unfoldable pub dir_attr : ℕ → Attr
dir_attr d = record { number = d; uid = 0; mode = 16877; size = 512; mtime = pos 0 }

-- the root alone, with these entries
unfoldable pub alone : List Entry → Volume
alone es = small 3 (λ i. 2) (λ i. es)

-- the entries of two lost directories that name each other, those with one more below them, and the
-- volume of the first
unfoldable pub lost_entries : ℕ → List Entry
lost_entries i = if i == 3 then dots 3 4 (entry 4 4 (120 ∷ []) ∷ [])
    else (if i == 4 then dots 4 3 (entry 3 4 (121 ∷ []) ∷ []) else dots 2 2 [])

unfoldable pub below_entries : ℕ → List Entry
below_entries i = if i == 4 then dots 4 3 (entry 3 4 (121 ∷ []) ∷ entry 5 4 (122 ∷ []) ∷ [])
    else (if i == 5 then dots 5 4 [] else lost_entries i)

unfoldable pub lost_cycle : Volume
lost_cycle = small 5 (λ i. if i == 2 then 2 else 3) lost_entries

-- a directory entered as `a` and as `b`
unfoldable pub twice_entries : ℕ → List Entry
twice_entries i = if i == 2 then dots 2 2 (entry 3 4 (97 ∷ []) ∷ entry 3 4 (98 ∷ []) ∷ []) else dots 3 2 []

unfoldable pub twice : Volume
twice = small 4 (λ i. if i == 2 then 3 else 2) twice_entries

-- a directory `a` below the root, which has these entries
unfoldable pub sub_entries : List Entry → ℕ → List Entry
sub_entries es i = if i == 2 then dots 2 2 (entry 3 4 (97 ∷ []) ∷ []) else es

unfoldable pub sub : List Entry → Volume
sub es = small 4 (λ i. if i == 2 then 3 else 2) (sub_entries es)

-- a directory of size 0, which the root names with these entries
unfoldable pub empty_dir : List Entry → Volume
empty_dir es = record {
  count = 4;
  class = class_with_dirs_below 4;
  inode = λ i. record {
    mode = 16877;
    nlink = pos (if i == 2 then 2 else 0);
    size = if i == 2 then 512 else 0;
    uid = 0;
    mtime = pos 0;
    addresses = [];
    blocks = 0;
  };
  gap = λ i. false;
  chunks = λ i. if i == 2 then whole_chunk (dots 2 2 es) else [];
  marked = λ i. false;
}

-- what messages show of that directory
abbrev pub about_empty : Attr
about_empty = record { number = 3; uid = 0; mode = 16877; size = 0; mtime = pos 0 }

-- a lost directory below one that is dead, as it is marked and nothing names it
unfoldable pub dead_entries : ℕ → List Entry
dead_entries i = if i == 3 then dots 3 2 (entry 4 4 (120 ∷ []) ∷ []) else (if i == 4 then dots 4 3 [] else dots 2 2 [])

unfoldable pub dead_parent : Volume
dead_parent = record {
  count = 5;
  class = class_with_dirs_below 5;
  inode = λ i. record { mode = 16877; nlink = pos 2; size = 512; uid = 0; mtime = pos 0; addresses = []; blocks = 0 };
  gap = λ i. false;
  chunks = λ i. whole_chunk (dead_entries i);
  marked = λ i. i == 3;
}

-- the volume of `sub` whose directory `a` has this size
unfoldable pub sized : ℕ → Volume
sized size = record (sub (dots 3 2 [])) {
  inode = λ i. record {
    mode = 16877;
    nlink = pos (if i == 2 then 3 else 2);
    size = if i == 3 then size else 512;
    uid = 0;
    mtime = pos 0;
    addresses = [];
    blocks = 0;
  };
}

-- the longest name
unfoldable pub long_name : List ℕ
long_name = replicate 255 97

-- what phase 2 reports, and paths
pub record PathnameExamples : Type 0 where
  -- the root alone, and a cycle: nothing to report
  pub base : pathname_lines (alone (dots 2 2 [])) ≡ []
  pub cycle : pathname_lines lost_cycle ≡ []
  -- the second of two links; an entry of a directory below the root that names no inode
  pub second_link : pathname_lines twice ≡ of_entry (Extraneous (47 ∷ 98 ∷ []) (47 ∷ 97 ∷ [])) ∷ []
  pub no_inode : pathname_lines (sub (dots 3 2 (entry 99 8 (113 ∷ []) ∷ [])))
      ≡ of_entry (OutOfRange 99 (47 ∷ 97 ∷ 47 ∷ 113 ∷ [])) ∷ []
  -- `.` and `..` that are missing, that have other entries in their places, that are swapped, and
  -- that are wrong
  pub no_dots : pathname_lines (alone [])
      ≡ of_dot (MissingDot (dir_attr 2) (47 ∷ [])) ∷ of_dot (MissingDotdot (dir_attr 2) (47 ∷ [])) ∷ []
  pub others_first : pathname_lines (alone (entry 1 14 (97 ∷ []) ∷ entry 1 14 (98 ∷ []) ∷ []))
      ≡ of_dot (MissingDotFirst (dir_attr 2) (47 ∷ []) (97 ∷ []))
      ∷ of_dot (MissingDotdotSecond (dir_attr 2) (47 ∷ []) (98 ∷ [])) ∷ []
  pub turned : pathname_lines (alone (entry 2 4 two_dots ∷ entry 2 4 one_dot ∷ []))
      ≡ of_dot (MissingDot (dir_attr 2) (47 ∷ [])) ∷ of_dot (MissingDotdot (dir_attr 2) (47 ∷ []))
      ∷ of_dot (ExtraDotdot (dir_attr 2) (47 ∷ []))
      ∷ of_dot (ExtraDot (dir_attr 2) (47 ∷ [])) ∷ []
  pub wrong_dots : pathname_lines (sub (entry 2 8 one_dot ∷ entry 3 8 two_dots ∷ []))
      ≡ of_dot (NumberDot (dir_attr 3) (47 ∷ 97 ∷ [])) ∷ of_dot (TypeDot (dir_attr 3) (47 ∷ 97 ∷ []))
      ∷ of_dot (NumberDotdot (dir_attr 3) (47 ∷ 97 ∷ []))
      ∷ of_dot (TypeDotdot (dir_attr 3) (47 ∷ 97 ∷ [])) ∷ []
  -- a whiteout that is right and two that aren't; the root entered, with another type
  pub whiteouts : pathname_lines (alone (dots 2 2 (entry 1 14 (97 ∷ []) ∷ entry 1 8 (98 ∷ []) ∷ entry 2 14 (99 ∷ [])
      ∷ []))) ≡ of_entry (BadWhiteout 1 (47 ∷ 98 ∷ [])) ∷ of_entry (BadWhiteout 2 (47 ∷ 99 ∷ [])) ∷ []
  pub root_entered : pathname_lines (alone (dots 2 2 (entry 2 8 (97 ∷ []) ∷ [])))
      ≡ of_entry (Extraneous (47 ∷ 97 ∷ []) (47 ∷ [])) ∷ of_entry (TypeEntry DirLabel (dir_attr 2) (47 ∷ 97 ∷ [])) ∷ []
  -- a directory of size 0, reported at its first entry alone
  pub zero_length : pathname_lines (empty_dir (entry 3 4 (97 ∷ []) ∷ entry 3 4 (98 ∷ []) ∷ []))
      ≡ of_entry (ZeroDir about_empty (47 ∷ 97 ∷ [])) ∷ of_entry (Extraneous (47 ∷ 98 ∷ []) (47 ∷ 97 ∷ [])) ∷ []
  -- the root unallocated, no directory, or marked
  pub no_root : pathname_lines (record (alone []) { class = λ i. Free }) ≡ of_directory RootNone ∷ []
  pub root_file : pathname_lines (record (alone []) { class = λ i. File }) ≡ of_directory RootNotDir ∷ []
  pub root_marked : pathname_lines (record (alone (dots 2 2 [])) { marked = λ i. true }) ≡ of_directory RootSuspect ∷ []
  -- a size below 24, which is reported alone, one that is no multiple of 512, and a hole
  pub too_short : pathname_lines (sized 23)
      ≡ of_directory (DirShort (record (dir_attr 3) { size = 23 }) (47 ∷ 97 ∷ [])) ∷ []
  pub no_multiple : pathname_lines (sized 600) ≡ of_directory (DirLength (47 ∷ 97 ∷ []) 600) ∷ []
  pub hole : pathname_lines (record (sub (dots 3 2 [])) { gap = λ i. i == 3 })
      ≡ of_directory (DirHoles (47 ∷ 97 ∷ [])) ∷ []
  -- a marked root that is entered is extraneous there, and no more; the type of an unknown inode
  -- isn't compared
  pub marked_root_entered : pathname_lines (record (alone (dots 2 2 (entry 2 4 (97 ∷ []) ∷ []))) { marked = λ i. true })
      ≡ of_directory RootSuspect ∷ of_entry (Extraneous (47 ∷ 97 ∷ []) (47 ∷ [])) ∷ []
  pub unknown_type : pathname_lines (record (small 4 (λ i. 2) (λ i. dots 2 2 (entry 3 8 (97 ∷ []) ∷ [])))
      { class = λ i. if i == 2 then Dir else Unknown }) ≡ []
  -- four names of 255 bytes are whole, five are cut
  pub four_names : length (path_bytes (long_name ∷ long_name ∷ long_name ∷ long_name ∷ [])) ≡ 1024
  pub five_names : path_bytes (long_name ∷ long_name ∷ long_name ∷ long_name ∷ long_name ∷ []) ≡ 63 ∷ (47 ∷ long_name)
      ++ ((47 ∷ long_name) ++ (47 ∷ long_name))
  -- paths of the root, of a directory, of a lost one and of its entry
  pub paths : (dir_path (graph_of twice) 2 ≡ 47 ∷ []) × (dir_path (graph_of twice) 3 ≡ 47 ∷ 97 ∷ [])
      × (dir_path (graph_of lost_cycle) 3 ≡ 63 ∷ [])
      × (entry_path (graph_of lost_cycle) 3 (120 ∷ []) ≡ 63 ∷ 47 ∷ 120 ∷ [])

-- levels and parents, and what phases 3 and 4 report
pub record ReferenceExamples : Type 0 where
  -- levels and parents
  pub levels : (level (graph_of twice) 2 ≡ Some 0) × (level (graph_of twice) 3 ≡ Some 1)
      × (level (graph_of lost_cycle) 3 ≡ None)
  pub parents : (parent (graph_of twice) 2 ≡ Some 2) × (parent (graph_of twice) 3 ≡ Some 2)
      × (parent (graph_of lost_cycle) 3 ≡ Some 4)
  -- one of a cycle is reported, and what hangs below it isn't; below a dead directory, the lost one is
  pub cycle : connectivity_lines lost_cycle ≡ of_reference (UnrefDir (dir_attr 3)) ∷ []
  pub cycle_below : connectivity_lines (small 6 (λ i. 3) below_entries) ≡ of_reference (UnrefDir (dir_attr 3)) ∷ []
  pub below_dead : connectivity_lines dead_parent ≡ of_reference (UnrefDir (dir_attr 4)) ∷ []
  pub none_lost : connectivity_lines twice ≡ []
  -- counts of links
  pub references_counted : map (references twice) (2 ∷ 3 ∷ []) ≡ 3 ∷ 3 ∷ []
  pub base : reference_lines (alone (dots 2 2 [])) ≡ []
  pub cycle_counted : reference_lines lost_cycle ≡ []
  pub second_link : reference_lines twice ≡ of_reference (LinkCount DirLabel (dir_attr 3) (pos 2) 3) ∷ []
  pub extra_uncounted : reference_lines (alone (dots 2 2 (entry 2 4 two_dots ∷ []))) ≡ []
  -- dead inodes: a directory of size 0 that nothing names, and a marked one
  pub dead_empty : reference_lines (empty_dir []) ≡ of_reference (DeadZero about_empty) ∷ []
  pub dead_lines : reference_lines dead_parent
      ≡ of_reference (LinkCount DirLabel (dir_attr 2) (pos 2) 3) ∷ of_reference (DeadMarked DirLabel (dir_attr 3)) ∷ []
  -- no reference at all: with and without links
  pub unnamed : reference_lines (record (small 4 (λ i. if i == 2 then 2 else 1)
      (λ i. if i == 2 then dots 2 2 [] else [])) { class = λ i. if i == 2 then Dir else File })
      ≡ of_reference (Unref FileLabel (dir_attr 3)) ∷ []
  pub unlinked : reference_lines (record (small 4 (λ i. if i == 2 then 2 else 0)
      (λ i. if i == 2 then dots 2 2 [] else [])) { class = λ i. if i == 2 then Dir else File })
      ≡ of_reference (UnrefZero FileLabel (dir_attr 3)) ∷ []
