use Rattle.ffs_report.proofs.Sinks.{printing}
use Rattle.ffs_report.proofs.tree_lines.print_path.Goals as goal

pub returns-in_err-print_inode : goal.returns-in_err-print_inode
returns-in_err-print_inode g c = search (printing, (rw c.path_label.ensures at c.in_err-print_inode.ensures))

pub returns-in_err-print_shown : goal.returns-in_err-print_shown
returns-in_err-print_shown g c =
    let inode = rw c.path_label.ensures at c.in_ok-print_inode.ensures in
    search (printing, inode, c.in_err-print_shown.ensures)

pub returns : goal.returns
returns g c =
    let inode = rw c.path_label.ensures at c.in_ok-print_inode.ensures in
    search (printing, inode, c.in_ok-print_shown.ensures, c.print.ensures.prints)
