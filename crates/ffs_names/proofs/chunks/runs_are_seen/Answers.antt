use Rattle.ffs_names.proofs.RunSums.{runs_seen_by}
use Rattle.ffs_names.proofs.chunks.runs_are_seen.Goals as goal

pub returns : goal.returns
returns c = runs_seen_by
