-- What is said in phase 4 before an inode where a read of its block fails.
use Rattle.std.proofs.Common.{ℕ, ◌<◌, List, Err, arith}
use Rattle.ffs_volume.specs.{declared.Layout.Layout, Blocks.Inodes.inodes_of, Messages.Kinds.phase4}
use Rattle.ffs_volume.specs.Directories.{ReferenceCheck.{reference_lines, reference_lines_at}, Volumes.{volume_of, volume_with}}
use Rattle.ffs_volume.specs.Report.Whole.{phase4_messages}
use Rattle.ffs_report.{specs.{Fails.FailsIn, PhaseOutcome.SaidOf, Progress.Progress}, proofs.Reporting.said_below}
use Rattle.ffs_report.specs.declared.fault.RunFault.{RunFault, TheVariants.{Read, Out}}
use Rattle.ffs_workspace.specs.Tables.{FailsBeforeLine}
use Rattle.ffs_counts.{specs.BeforeFault.SaidBeforeInode, proofs.Holding.lines_after}

-- the messages before an inode were said, and a read of its block failed
pub fails_before : (T E : Type 0) (knows : List ℕ → Type 0) (v : Layout) (x : ℕ) (a b c : Progress) (fault : RunFault) →
    x < inodes_of v → SaidOf knows (lines_after v x) (phase4_messages v) a b →
    FailsIn {T = T} (FailsBeforeLine v x b c) (Err fault) → FailsIn {T = E} (SaidBeforeInode knows v a c) (Err fault)
unfolding reference_lines volume_of volume_with
fails_before T E knows v x a b c (Read fault) low said h = record {
  inode = x;
  low = low;
  failed = h.0;
  said = rw h.1 (said_below phase4 (λ bytes. reference_lines_at (volume_of v bytes)) x (inodes_of v) (omega arith) said);
}
fails_before T E knows v x a b c (Out fault) low said h = tt
