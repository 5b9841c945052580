-- The messages of a report, and which of them report a defect.
use Rattle.std.specs.{Prelude.{ℕ, zero, suc, Bool, true, false, List, [], ◌∷◌, ◌++◌, ℤ}, List.list_any}
use Rattle.ffs_volume.specs.declared.{BlockMessage.BlockMessage, SuperFault.SuperFault}
use Rattle.ffs_volume.specs.declared.tree_lines.DirectoryLine.{DirectoryLine, TheVariants.{RootNone, RootNotDir}}
use Rattle.ffs_volume.specs.declared.tree_lines.{DotLine.DotLine, EntryLine.EntryLine, ReferenceLine.ReferenceLine}

-- a message on a directory as a whole, its `.` and `..`, a further entry, or the references to an
-- inode. The folder Directories has the rules that report them, `Texts` the text of each. Paths and
-- names have the bytes of the image; a text has `?` in place of control bytes
pub data TreeMessage : Type 0 where
  of_directory : (line : DirectoryLine (List ℕ)) → TreeMessage
  of_dot : (line : DotLine (List ℕ)) → TreeMessage
  of_entry : (line : EntryLine (List ℕ)) → TreeMessage
  of_reference : (line : ReferenceLine) → TreeMessage

-- a message of a report: of the opening, a heading, a message of a phase, the summary, or the end
-- of a run that isn't completed
pub data Message : Type 0 where
  location : (sector : ℕ) → Message  -- Alternate super block location
  image_name : (name : List ℕ) → Message
  bad_super : (fault : SuperFault) → Message
  cannot_read : (sector : ℕ) → Message
  cannot_alloc : Message  -- the memory of a check was refused
  optimization : Message  -- UNDEFINED OPTIMIZATION IN SUPERBLOCK
  minfree : (value : ℤ) → Message  -- IMPOSSIBLE MINFREE IN SUPERBLOCK
  mounted : (mount : List ℕ) → Message  -- Last Mounted on
  phase1 : Message
  phase1b : Message
  phase2 : Message
  phase3 : Message
  phase4 : Message
  phase5 : Message
  of_blocks : (message : BlockMessage) → Message
  of_tree : (message : TreeMessage) → Message
  -- `used` counts the claimed fragments alone, as fsck(8) does; `tenths` are tenths of a percent
  summary : (files used : ℕ) (free frags blocks tenths : ℤ) → Message

-- the message reports an inconsistency; a refused superblock or a failed read ends the run instead
abbrev pub is_defect : Message → Bool
is_defect (location sector) = false
is_defect (image_name name) = false
is_defect (bad_super fault) = false
is_defect (cannot_read sector) = false
is_defect cannot_alloc = false
is_defect optimization = true
is_defect (minfree value) = true
is_defect (mounted mount) = false
is_defect phase1 = false
is_defect phase1b = false
is_defect phase2 = false
is_defect phase3 = false
is_defect phase4 = false
is_defect phase5 = false
is_defect (of_blocks message) = true
is_defect (of_tree message) = true
is_defect (summary files used free frags blocks tenths) = false

-- a defect is among them
abbrev pub has_defect : List Message → Bool
has_defect messages = list_any is_defect messages

-- the messages after which a check stops: the root isn't allocated, or isn't a directory
abbrev pub stops_check : Message → Bool
stops_check (of_tree (of_directory RootNone)) = true
stops_check (of_tree (of_directory RootNotDir)) = true
stops_check _ = false

-- a check stops after the last of these messages
abbrev pub stops_at_last : List Message → Bool
stops_at_last [] = false
stops_at_last (message ∷ []) = stops_check message
stops_at_last (message ∷ next ∷ more) = stops_at_last (next ∷ more)

-- the message, where the test fails
abbrev pub unless : {M : Type 0} → Bool → M → List M
unless true m = []
unless false m = m ∷ []

-- the message on a directory, an entry or an inode, where the condition holds
abbrev pub reported : Bool → TreeMessage → List TreeMessage
reported true m = m ∷ []
reported false m = []

-- what is reported for the numbers below n, ascending
unfoldable pub lines_below : (ℕ → List TreeMessage) → ℕ → List TreeMessage
lines_below lines zero = []
lines_below lines (suc n) = lines_below lines n ++ lines n

-- what is reported for the k numbers from d on, ascending
unfoldable pub lines_from : (lines : ℕ → List TreeMessage) (d k : ℕ) → List TreeMessage
lines_from lines d zero = []
lines_from lines d (suc k) = lines d ++ lines_from lines (suc d) k
