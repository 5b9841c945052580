use Rattle.std.proofs.Common.{◌≡◌, ◌≤◌}
use Rattle.ffs_counts.specs.Summing.{files_among}
use Rattle.ffs_counts.proofs.summing.few_files.Given as goal

abbrev pub invariant-loop-inode : goal.invariant-loop-inode
invariant-loop-inode l = record {
  files : l.files ≡ files_among l.kinds l.first l.inode;
  within : l.inode ≤ l.end;
}
