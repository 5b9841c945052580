use Rattle.ffs_names.proofs.{Shaped.shape_same}
use Rattle.ffs_names.proofs.reader.DirectoryReaderDirectories.skip_empty.Goals as goal

pub returns-clause-shape : goal.returns-clause-shape
returns-clause-shape g c = λ b k.
    let same = c.skip_empty.ensures.same in
    shape_same b _ _ _ _ _ _ same.right_so_far same.fills same.chunks
