-- What the check of reference counts, phase 4, reports.
use Rattle.std.specs.Prelude.{ℕ, ◌==◌, not, List, [], ◌∷◌, if◌then◌else◌}
use Rattle.ffs_volume.specs.{Disk.Numbers.equals_natural, Directories.Roles.{Volume, is_allocated_inode, references}}
use Rattle.ffs_volume.specs.Messages.Kinds.{TreeMessage, lines_below, reported, of_reference}
use Rattle.ffs_volume.specs.Directories.{PathnameCheck.{attributes, label_of}, Connectivity.is_dead}
use Rattle.ffs_volume.specs.declared.tree_lines.ReferenceLine.TheVariants.{DeadMarked, DeadZero, LinkCount, Unref}
use Rattle.ffs_volume.specs.declared.tree_lines.ReferenceLine.TheVariants.{UnrefZero}

-- the message on a dead inode
abbrev pub dead_lines : Volume → ℕ → List TreeMessage
dead_lines vol i =
    if vol.marked i then of_reference (DeadMarked (label_of (vol.class i)) (attributes vol i)) ∷ []
    else of_reference (DeadZero (attributes vol i)) ∷ []

-- the message on an inode without references
abbrev pub unref_lines : Volume → ℕ → List TreeMessage
unref_lines vol i =
    if equals_natural (vol.inode i).nlink 0
    then of_reference (UnrefZero (label_of (vol.class i)) (attributes vol i)) ∷ []
    else of_reference (Unref (label_of (vol.class i)) (attributes vol i)) ∷ []

-- the message on an allocated inode: it is dead, has no references, or another count of links
unfoldable pub inode_reference_lines : Volume → ℕ → List TreeMessage
inode_reference_lines vol i =
    if is_dead vol i then dead_lines vol i
    else (if references vol i == 0 then unref_lines vol i
    else reported (not (equals_natural (vol.inode i).nlink (references vol i)))
    (of_reference (LinkCount (label_of (vol.class i)) (attributes vol i) (vol.inode i).nlink (references vol i))))

-- the message on the number i: none where it isn't that of an allocated inode
abbrev pub reference_lines_at : Volume → ℕ → List TreeMessage
reference_lines_at vol i = if is_allocated_inode vol i then inode_reference_lines vol i else []

-- the lines of phase 4
unfoldable pub reference_lines : Volume → List TreeMessage
reference_lines vol = lines_below (reference_lines_at vol) vol.count
