use Rattle.ffs_volume.specs.Directories.PathnameCheck.{header_lines}
use Rattle.ffs_pathnames.proofs.Saying.{first_stops, names_then}
use Rattle.ffs_pathnames.proofs.header.say_header.Goals as goal

pub returns-in_err-say_chunks : goal.returns-in_err-say_chunks
unfolding header_lines
returns-in_err-say_chunks g c = names_then _ _ _ _ _ _ c.in_ok-say_size.ensures
    (first_stops _ _ _ _ c.from_residual-in_err-say_chunks.result c.from_residual-in_err-say_chunks.ensures.0
    c.in_err-say_chunks.ensures)

pub returns : goal.returns
unfolding header_lines
returns g c = names_then _ _ _ _ _ _ c.in_ok-say_size.ensures
    (names_then _ _ _ _ _ _ c.in_ok-say_chunks.ensures c.say_dots.ensures)
