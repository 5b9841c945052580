use Rattle.std.proofs.{Common.arith}
use Rattle.ffs_names.proofs.Continuing.{contents_kept}
use Rattle.ffs_names.proofs.reader.DirectoryReaderDirectories.has_right_shape.Goals as goal

pub returns-clause-reader : goal.returns-clause-reader
returns-clause-reader g c = grind (arith, contents_kept)

pub returns-clause-counted : goal.returns-clause-counted
returns-clause-counted g c = λ b k held. c.has_right_shape.ensures.reads _ held b k.bytes

pub returns-clause-shape : goal.returns-clause-shape
returns-clause-shape g c = grind arith
