-- The workspace is ready before each part.
use Rattle.ffs_workspace.specs.Ready.{IsReady}
use Rattle.ffs_reads.proofs.table.count_parts.Given as goal

abbrev pub invariant-loop-part : goal.invariant-loop-part
invariant-loop-part g l = IsReady l.superblock.geometry.layout (g.I.Image.device l.image.inner) l.workspace
