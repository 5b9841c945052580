use Rattle.std.proofs.Common.{arith}
use Rattle.ffs_paths.{proofs.{Rooms.entry_in_room}}
use Rattle.ffs_pathnames.proofs.gather.gather_own_path_and_attr.Goals as goal

pub returns : goal.returns
returns g c = grind (arith, entry_in_room)

pub returns-then-not-asks_attr : goal.returns-then-not-asks_attr
returns-then-not-asks_attr g c = grind (arith, entry_in_room)

pub read_attr-requires : goal.read_attr-requires
read_attr-requires g c = grind arith
