-- The texts of messages, in bytes: what a message says, then each of its questions with its answer
-- and an empty line.
use Rattle.std.specs.{Prelude.{ℕ, ℤ, ◌/◌, ◌%◌, List, [], ◌∷◌, ◌++◌, map, decimal, unsigned_abs}, List.flat_map}
use Rattle.std.specs.{List.concat, Fmt.signed_decimal, Borrow.Bor}
use Rattle.ffs_volume.specs.declared.{Attr.Attr, BlockMessage.{BlockMessage, TheVariants.{PartAlloc, UnknownType, Bad}}}
use Rattle.ffs_volume.specs.declared.BlockMessage.TheVariants.{Dup, ManyBad, ManyDup, PartTrunc, BlockCount, GroupMagic}
use Rattle.ffs_volume.specs.declared.{BlockMessage.TheVariants.{FreeCounts, MapsWrong, GroupSums}, Label.Label}
use Rattle.ffs_volume.specs.declared.{Label.TheVariants.{Dir, File, Name}, SuperFault.SuperFault}
use Rattle.ffs_volume.specs.declared.SuperFault.TheVariants.{CannotRead, Magic, InodeFormat, Ncg, Cpg, Ncyl, TooLarge}
use Rattle.ffs_volume.specs.{declared.SuperFault.TheVariants.{Shape, Short, Disagree}, Messages.Kinds.Message}
use Rattle.ffs_volume.specs.Messages.Kinds.{location, image_name, bad_super, cannot_read, cannot_alloc, optimization}
use Rattle.ffs_volume.specs.Messages.Kinds.{minfree, mounted, phase1, phase1b, phase2, phase3, phase4, phase5}
use Rattle.ffs_volume.specs.Messages.{Kinds.{of_blocks, of_tree, summary}, Shown.{shown, octal, sign_text}}
use Rattle.ffs_volume.specs.declared.tree_lines.{DirectoryLine.DirectoryLine, DotLine.DotLine}
use Rattle.ffs_volume.specs.declared.tree_lines.{EntryLine.EntryLine, ReferenceLine.ReferenceLine}
use Rattle.ffs_volume.specs.Messages.Kinds.{TreeMessage, of_directory, of_dot, of_entry, of_reference}
use Rattle.ffs_volume.specs.declared.tree_lines.DirectoryLine.TheVariants.{RootNone, RootNotDir, RootSuspect, DirShort}
use Rattle.ffs_volume.specs.declared.tree_lines.DirectoryLine.TheVariants.{DirLength, DirHoles, DirCorrupt}
use Rattle.ffs_volume.specs.declared.tree_lines.DotLine.TheVariants.{MissingDot, MissingDotFirst, NumberDot, TypeDot}
use Rattle.ffs_volume.specs.declared.tree_lines.DotLine.TheVariants.{MissingDotdot, MissingDotdotSecond, NumberDotdot}
use Rattle.ffs_volume.specs.declared.tree_lines.DotLine.TheVariants.{TypeDotdot, ExtraDot, ExtraDotdot}
use Rattle.ffs_volume.specs.declared.tree_lines.EntryLine.TheVariants.{OutOfRange, BadWhiteout, Unallocated, DupBad}
use Rattle.ffs_volume.specs.declared.tree_lines.EntryLine.TheVariants.{ZeroDir, Extraneous, TypeEntry}
use Rattle.ffs_volume.specs.declared.tree_lines.ReferenceLine.TheVariants.{UnrefDir, DeadMarked, DeadZero, Unref}
use Rattle.ffs_volume.specs.declared.tree_lines.ReferenceLine.TheVariants.{UnrefZero, LinkCount}
use Rattle.ffs_volume.specs.declared.texts.TheConstants as texts

-- the label before a path
abbrev pub path_label : Label → List ℕ
path_label Dir = texts.PATH_OF_DIR.now
path_label File = texts.PATH_OF_FILE.now
path_label Name = texts.PATH_OF_NAME.now

-- DIR for a directory, FILE for all else
abbrev pub file_label : Label → List ℕ
file_label Dir = texts.DIR.now
file_label File = texts.FILE.now
file_label Name = texts.FILE.now

-- the attributes of an inode, the mode in octal
abbrev pub attr_text : Attr → List ℕ
attr_text a = concat (
    texts.INODE.now ∷ decimal a.number ∷ texts.OWNER.now ∷ decimal a.uid ∷ texts.MODE.now ∷ octal a.mode
    ∷ texts.SIZE.now ∷ decimal a.size ∷ texts.MTIME.now ∷ signed_decimal a.mtime ∷ [])

-- `head`, the attributes of an inode, and `tail`
abbrev pub inode_text : (head : List ℕ) (attr : Attr) (tail : List ℕ) → List ℕ
inode_text head attr tail = head ++ (attr_text attr ++ tail)

-- the same, with DIR or FILE before the attributes
abbrev pub labelled_text : (head : List ℕ) (label : Label) (attr : Attr) (tail : List ℕ) → List ℕ
labelled_text head label attr tail = head ++ inode_text (file_label label) attr tail

-- `head`, the attributes of an inode, its path, and `tail`
abbrev pub path_text : (head : List ℕ) (attr : Attr) (label : Label) (path tail : List ℕ) → List ℕ
path_text head attr label path tail = inode_text head attr (concat (path_label label ∷ map shown path ∷ tail ∷ []))

-- `head`, the attributes of a directory, its path, and the name of the entry in the place of `.` or
-- `..`, after `why`
abbrev pub name_in_the_way_text : (head : List ℕ) (attr : Attr) (path why name : List ℕ) → List ℕ
name_in_the_way_text head attr path why name =
    inode_text head attr (concat (
    texts.PATH_OF_DIR.now ∷ map shown path ∷ why ∷ map shown name ∷ texts.LINE_END.now ∷ []))

-- `head`, a number, and `tail`
abbrev pub number_text : (head : List ℕ) (number : ℕ) (tail : List ℕ) → List ℕ
number_text head number tail = concat (head ∷ decimal number ∷ tail ∷ [])

-- the line of a refused superblock. A report has that of CannotRead as a message of its own,
-- `cannot_read`
abbrev pub fault_text : SuperFault → List ℕ
fault_text (CannotRead sector) = number_text texts.CANNOT_READ.now sector texts.LINE_END.now
fault_text Magic = texts.MAGIC.now
fault_text InodeFormat = texts.INODE_FORMAT.now
fault_text Ncg = texts.NCG.now
fault_text Cpg = texts.CPG.now
fault_text Ncyl = texts.NCYL.now
fault_text TooLarge = texts.TOO_LARGE.now
fault_text Shape = texts.SHAPE.now
fault_text Short = texts.SHORT.now
fault_text Disagree = texts.DISAGREE.now

-- a fragment, what is wrong with it, and the inode that has it
abbrev pub offer_text : (fragment : ℕ) (what : List ℕ) (inode : ℕ) → List ℕ
offer_text fragment what inode = concat (decimal fragment ∷ what ∷ decimal inode ∷ texts.LINE_END.now ∷ [])

-- an inode's own count of sectors of 512 bytes, and the right one
abbrev pub block_count_text : (inode found right : ℕ) → List ℕ
block_count_text inode found right = concat (
    texts.BLOCK_COUNT.now ∷ decimal inode ∷ texts.FOUND.now ∷ decimal found
    ∷ texts.RIGHT.now ∷ decimal right ∷ texts.CORRECT.now ∷ [])

-- a message of the block check or of the check of cylinder groups
abbrev pub block_message_text : BlockMessage → List ℕ
block_message_text (PartAlloc inode) = number_text texts.PART_ALLOC.now inode texts.CLEAR.now
block_message_text (UnknownType inode) = number_text texts.UNKNOWN_TYPE.now inode texts.CLEAR.now
block_message_text (Bad fragment inode) = offer_text fragment texts.BAD.now inode
block_message_text (Dup fragment inode) = offer_text fragment texts.DUP.now inode
block_message_text (ManyBad inode) = number_text texts.MANY_BAD.now inode texts.CONTINUE.now
block_message_text (ManyDup inode) = number_text texts.MANY_DUP.now inode texts.CONTINUE.now
block_message_text (PartTrunc inode) = number_text texts.PART_TRUNC.now inode texts.SALVAGE.now
block_message_text (BlockCount inode found right) = block_count_text inode found right
block_message_text (GroupMagic group) = number_text texts.GROUP.now group texts.GROUP_MAGIC.now
block_message_text FreeCounts = texts.FREE_COUNTS.now
block_message_text MapsWrong = texts.MAPS_WRONG.now
block_message_text GroupSums = texts.GROUP_SUMS.now

-- a directory that has a Gap
abbrev pub empty_blocks_text : List ℕ → List ℕ
empty_blocks_text path =
    concat (texts.DIRECTORY.now ∷ map shown path ∷ texts.CONTAINS_EMPTY_BLOCKS.now ∷ [])

-- a directory whose size is no multiple of 512
abbrev pub length_text : (path : List ℕ) (size : ℕ) → List ℕ
length_text path size = concat (
    texts.DIRECTORY.now ∷ map shown path ∷ texts.DIR_LENGTH.now ∷ decimal size
    ∷ texts.NOT_MULTIPLE.now ∷ [])

-- an entry by its number and its path
abbrev pub entry_text : (head : List ℕ) (number : ℕ) (path tail : List ℕ) → List ℕ
entry_text head number path tail = concat (head ∷ decimal number ∷ texts.PATH_OF_NAME.now ∷ map shown path ∷ tail ∷ [])

-- an entry that is a further link to a directory
abbrev pub extraneous_text : (path directory : List ℕ) → List ℕ
extraneous_text path directory =
    concat (map shown path ∷ texts.EXTRANEOUS.now ∷ map shown directory
    ∷ texts.REMOVE.now ∷ [])

-- the count of links and the count of references: the end of the LINK COUNT message
abbrev pub counts_text : ℤ → ℕ → List ℕ
counts_text nlink references = concat (
    texts.COUNT.now ∷ signed_decimal nlink ∷ texts.SHOULD_BE.now ∷ decimal references
    ∷ texts.ADJUST.now ∷ [])

-- an inode with a wrong count of links, and both counts
abbrev pub links_text : Label → Attr → ℤ → ℕ → List ℕ
links_text label attr nlink references = labelled_text texts.LINK_COUNT.now label attr (counts_text nlink references)

-- a message on a directory as a whole
abbrev pub directory_line_text : DirectoryLine (List ℕ) → List ℕ
directory_line_text RootNone = texts.ROOT_NONE.now
directory_line_text RootNotDir = texts.ROOT_NOT_DIR.now
directory_line_text RootSuspect = texts.ROOT_SUSPECT.now
directory_line_text (DirShort attr path) = path_text texts.DIR_SHORT.now attr Dir path texts.FIX.now
directory_line_text (DirLength path size) = length_text path size
directory_line_text (DirHoles path) = empty_blocks_text path
directory_line_text (DirCorrupt attr path) = path_text texts.DIR_CORRUPT.now attr Dir path texts.SALVAGE.now

-- a message on the entries `.` and `..`
abbrev pub dot_line_text : DotLine (List ℕ) → List ℕ
dot_line_text (MissingDot attr path) = path_text texts.MISSING_DOT.now attr Dir path texts.FIX.now
dot_line_text (MissingDotFirst attr path name) =
    name_in_the_way_text texts.MISSING_DOT.now attr path texts.FIRST_ENTRY.now name
dot_line_text (NumberDot attr path) = path_text texts.NUMBER_DOT.now attr Dir path texts.FIX.now
dot_line_text (TypeDot attr path) = path_text texts.TYPE_DOT.now attr Dir path texts.FIX.now
dot_line_text (MissingDotdot attr path) = path_text texts.MISSING_DOTDOT.now attr Dir path texts.FIX.now
dot_line_text (MissingDotdotSecond attr path name) =
    name_in_the_way_text texts.MISSING_DOTDOT.now attr path texts.SECOND_ENTRY.now name
dot_line_text (NumberDotdot attr path) = path_text texts.NUMBER_DOTDOT.now attr Dir path texts.FIX.now
dot_line_text (TypeDotdot attr path) = path_text texts.TYPE_DOTDOT.now attr Dir path texts.FIX.now
dot_line_text (ExtraDot attr path) = path_text texts.EXTRA_DOT.now attr Dir path texts.FIX.now
dot_line_text (ExtraDotdot attr path) = path_text texts.EXTRA_DOTDOT.now attr Dir path texts.FIX.now

-- a message on a further entry
abbrev pub entry_line_text : EntryLine (List ℕ) → List ℕ
entry_line_text (OutOfRange number path) = entry_text texts.OUT_OF_RANGE.now number path texts.REMOVE.now
entry_line_text (BadWhiteout number path) = entry_text texts.BAD_WHITEOUT.now number path texts.FIX.now
entry_line_text (Unallocated attr path) = path_text texts.UNALLOCATED.now attr Name path texts.REMOVE.now
entry_line_text (DupBad label attr path) = path_text texts.DUP_BAD.now attr label path texts.REMOVE.now
entry_line_text (ZeroDir attr path) = path_text texts.ZERO_DIR.now attr Dir path texts.REMOVE.now
entry_line_text (Extraneous path directory) = extraneous_text path directory
entry_line_text (TypeEntry label attr path) = path_text texts.TYPE_ENTRY.now attr label path texts.FIX.now

-- a message on an inode by the entries that name it
abbrev pub reference_line_text : ReferenceLine → List ℕ
reference_line_text (UnrefDir attr) = inode_text texts.UNREF_DIR.now attr texts.RECONNECT.now
reference_line_text (DeadMarked label attr) = labelled_text texts.DEAD_MARKED.now label attr texts.CLEAR.now
reference_line_text (DeadZero attr) = inode_text texts.DEAD_ZERO.now attr texts.CLEAR.now
reference_line_text (Unref label attr) = labelled_text texts.UNREF.now label attr texts.RECONNECT_OR_CLEAR.now
reference_line_text (UnrefZero label attr) = labelled_text texts.UNREF.now label attr texts.CLEAR.now
reference_line_text (LinkCount label attr nlink references) = links_text label attr nlink references

-- a message on directories, their entries or references
abbrev pub tree_message_text : TreeMessage → List ℕ
tree_message_text (of_directory line) = directory_line_text line
tree_message_text (of_dot line) = dot_line_text line
tree_message_text (of_entry line) = entry_line_text line
tree_message_text (of_reference line) = reference_line_text line

-- a line of the code as a message: its paths and names by their bytes
abbrev pub directory_message : DirectoryLine (Bor (List ℕ)) → DirectoryLine (List ℕ)
directory_message RootNone = RootNone
directory_message RootNotDir = RootNotDir
directory_message RootSuspect = RootSuspect
directory_message (DirShort attr path) = DirShort attr path.now
directory_message (DirLength path size) = DirLength path.now size
directory_message (DirHoles path) = DirHoles path.now
directory_message (DirCorrupt attr path) = DirCorrupt attr path.now

abbrev pub dot_message : DotLine (Bor (List ℕ)) → DotLine (List ℕ)
dot_message (MissingDot attr path) = MissingDot attr path.now
dot_message (MissingDotFirst attr path name) = MissingDotFirst attr path.now name.now
dot_message (NumberDot attr path) = NumberDot attr path.now
dot_message (TypeDot attr path) = TypeDot attr path.now
dot_message (MissingDotdot attr path) = MissingDotdot attr path.now
dot_message (MissingDotdotSecond attr path name) = MissingDotdotSecond attr path.now name.now
dot_message (NumberDotdot attr path) = NumberDotdot attr path.now
dot_message (TypeDotdot attr path) = TypeDotdot attr path.now
dot_message (ExtraDot attr path) = ExtraDot attr path.now
dot_message (ExtraDotdot attr path) = ExtraDotdot attr path.now

abbrev pub entry_message : EntryLine (Bor (List ℕ)) → EntryLine (List ℕ)
entry_message (OutOfRange number path) = OutOfRange number path.now
entry_message (BadWhiteout number path) = BadWhiteout number path.now
entry_message (Unallocated attr path) = Unallocated attr path.now
entry_message (DupBad label attr path) = DupBad label attr path.now
entry_message (ZeroDir attr path) = ZeroDir attr path.now
entry_message (Extraneous path directory) = Extraneous path.now directory.now
entry_message (TypeEntry label attr path) = TypeEntry label attr path.now

-- each number with what is after it; the fragmentation in tenths of a percent, its sign first
abbrev pub summary_text : (files used : ℕ) (free frags blocks tenths : ℤ) → List ℕ
summary_text files used free frags blocks tenths = concat (
    (decimal files ++ texts.FILES.now) ∷ (decimal used ++ texts.USED.now) ∷ (signed_decimal free ++ texts.FREE.now)
    ∷ (signed_decimal frags ++ texts.FRAGS.now) ∷ (signed_decimal blocks ++ texts.BLOCKS.now)
    ∷ sign_text tenths ∷ (decimal (unsigned_abs tenths / 10) ++ texts.POINT.now)
    ∷ (decimal (unsigned_abs tenths % 10) ++ texts.FRAGMENTATION.now) ∷ [])

-- the name of the image, as it was given
abbrev pub image_name_text : List ℕ → List ℕ
image_name_text name = concat (texts.BEFORE_IMAGE_NAME.now ∷ name ∷ texts.NO_WRITE.now ∷ [])

-- the mount point of the superblock
abbrev pub mounted_text : List ℕ → List ℕ
mounted_text mount = concat (texts.MOUNTED.now ∷ map shown mount ∷ texts.LINE_END.now ∷ [])

-- the message on a minfree that isn't 0 to 99
abbrev pub minfree_text : ℤ → List ℕ
minfree_text value = concat (
    texts.MINFREE.now ∷ signed_decimal value ∷ texts.SET_MINFREE.now ∷ [])

-- the bytes of a message
abbrev pub text_of : Message → List ℕ
text_of (location sector) = number_text texts.LOCATION.now sector texts.LINE_END.now
text_of (image_name name) = image_name_text name
text_of (bad_super fault) = fault_text fault
text_of (cannot_read sector) = number_text texts.CANNOT_READ.now sector texts.LINE_END.now
text_of cannot_alloc = texts.CANNOT_ALLOC.now
text_of optimization = texts.OPTIMIZATION.now
text_of (minfree value) = minfree_text value
text_of (mounted mount) = mounted_text mount
text_of phase1 = texts.PHASE1.now
text_of phase1b = texts.PHASE1B.now
text_of phase2 = texts.PHASE2.now
text_of phase3 = texts.PHASE3.now
text_of phase4 = texts.PHASE4.now
text_of phase5 = texts.PHASE5.now
text_of (of_blocks message) = block_message_text message
text_of (of_tree message) = tree_message_text message
text_of (summary files used free frags blocks tenths) = summary_text files used free frags blocks tenths

-- the bytes of messages, one after another; those of a report are what is printed where no read, no
-- write and no request for memory fails
abbrev pub texts_of : List Message → List ℕ
texts_of messages = flat_map text_of messages
