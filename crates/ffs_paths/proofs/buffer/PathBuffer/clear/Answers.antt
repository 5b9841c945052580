use Rattle.std.proofs.Common.{refl}
use Rattle.ffs_paths.proofs.Held.{none_held}
use Rattle.ffs_paths.proofs.buffer.PathBuffer.clear.Goals as goal

pub returns : goal.returns
returns c = none_held _ refl refl refl
