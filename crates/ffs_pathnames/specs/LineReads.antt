-- How often lines read the image.
use Rattle.std.specs.Prelude.{ℕ, ◌+◌, ◌*◌, ◌≤◌, if◌then◌else◌, List, length}
use Rattle.ffs_workspace.specs.Moments.{WorkMoment}
use Rattle.ffs_volume.specs.{Messages.Kinds.TreeMessage, declared.Layout.Layout, Report.Reads.{line_reads, path_reads}}
use Rattle.ffs_volume.specs.Encodings.Places.{PlacesAreNoted}
use Rattle.ffs_paths.specs.Reads.{ReadsFew}
use Rattle.ffs_pathnames.specs.{declared.entry_texts.EntryTexts.EntryTexts}

-- `line_reads` reads were made at most for each of these lines, which are those of an image's
-- bytes, and none into the window of indirect blocks, where the place of each directory is noted
abbrev pub ReadsByLines : Layout → (knows : List ℕ → Type 0) → (lines : List ℕ → List TreeMessage) →
    (old new : WorkMoment) → Type 0
ReadsByLines v knows lines old new = (b : List ℕ) → knows b → PlacesAreNoted v b old.workspace.words.items
    → ReadsFew (line_reads * length (lines b)) old.reads new.reads old.workspace new.workspace

-- where the path of its directory is made, a message on an entry reads the path of the directory that the
-- entry names, and an inode
abbrev pub again_reads : ℕ
again_reads = path_reads + 1

-- the reads that the path of the directory still takes, none once it is settled
abbrev pub path_owed : EntryTexts → ℕ
path_owed t = if t.path_settled then 0 else path_reads

-- so many lines of entries were said: for each `again_reads` reads were made at most, beside those for the
-- path of their directory, which is made once
abbrev pub ReadsPathOnce : (lines : ℕ) → (t t' : EntryTexts) → (reads reads' : ℕ) → Type 0
ReadsPathOnce lines t t' reads reads' = reads' + path_owed t' ≤ reads + (path_owed t + again_reads * lines)
