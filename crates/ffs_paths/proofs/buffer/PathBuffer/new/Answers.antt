use Rattle.std.proofs.Common.{refl}
use Rattle.ffs_paths.proofs.Ways.{new_holds}
use Rattle.ffs_paths.proofs.buffer.PathBuffer.new.Goals as goal

pub returns : goal.returns
returns c = new_holds _ refl refl refl
