use Rattle.ffs_reads.proofs.table.count_parts.Goals as goal

pub loop-part-init : goal.loop-part-init
loop-part-init g c = record {
  made = c.in_ok-workspace.ensures.new.made;
  volume = c.requires.volume;
}
