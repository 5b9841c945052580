use Rattle.std.{proofs.Common.ap, specs.Vec.with_item}
use Rattle.ffs_memory.proofs.word_room.WordRoom.set.Goals as goal

pub returns : goal.returns
returns c = ap (λ v. with_item v c.args.index c.args.word) c.self.view_is
