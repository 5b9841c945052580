-- The messages after the opening, from each phase on.
use Rattle.std.proofs.Common.{Bool, if◌then◌else◌, List, [], ◌++◌, ℕ}
use Rattle.ffs_volume.specs.{Disk.Superblock.Superblock, Messages.Kinds.Message, Directories.Volumes.volume_of}
use Rattle.ffs_volume.specs.Directories.PathnameCheck.{continues_after_root}
use Rattle.ffs_volume.specs.Report.Whole.{phase1b_messages_if_dups, phase2_messages, phase3_messages, phase4_messages}
use Rattle.ffs_volume.specs.Report.Whole.{phase5_messages, summary_messages}

-- phase 5 and the summary
abbrev pub from_phase5 : List ℕ → Superblock → List Message
from_phase5 bytes s = phase5_messages bytes s ++ summary_messages bytes s

-- phases 4 and 5 and the summary
abbrev pub from_phase4 : List ℕ → Superblock → List Message
from_phase4 bytes s = phase4_messages s.layout bytes ++ from_phase5 bytes s

-- phases 3 to 5 and the summary
abbrev pub from_phase3 : List ℕ → Superblock → List Message
from_phase3 bytes s = phase3_messages s.layout bytes ++ from_phase4 bytes s

-- the same, where the check continues after the root
abbrev pub after_phase2 : Bool → List ℕ → Superblock → List Message
after_phase2 goes bytes s = if goes then from_phase3 bytes s else []

-- phase 2 and what follows it
abbrev pub from_phase2 : List ℕ → Superblock → List Message
from_phase2 bytes s = phase2_messages s.layout bytes ++ after_phase2 (continues_after_root (volume_of s.layout bytes)) bytes s

-- phase 1b, where it runs, and what follows it
abbrev pub from_phase1b : List ℕ → Superblock → List Message
from_phase1b bytes s = phase1b_messages_if_dups s.layout bytes ++ from_phase2 bytes s
