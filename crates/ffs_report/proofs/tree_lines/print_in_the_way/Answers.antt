use Rattle.ffs_report.proofs.Sinks.{printing}
use Rattle.ffs_report.proofs.tree_lines.print_in_the_way.Goals as goal

pub returns-in_err-print_inode : goal.returns-in_err-print_inode
returns-in_err-print_inode g c = search (printing, c.in_err-print_inode.ensures)

pub returns : goal.returns
returns g c = search (printing, c.in_ok-print_inode.ensures, c.print_pieces.ensures)
