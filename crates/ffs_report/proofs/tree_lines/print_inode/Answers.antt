use Rattle.ffs_report.proofs.Sinks.{printing}
use Rattle.ffs_report.proofs.tree_lines.print_inode.Goals as goal

pub returns-in_err-print : goal.returns-in_err-print
returns-in_err-print g c = search (printing, c.in_err-print.ensures.prints)

pub returns-in_err-print_attr : goal.returns-in_err-print_attr
returns-in_err-print_attr g c = search (printing, c.in_ok-print.ensures.prints, c.in_err-print_attr.ensures)

pub returns : goal.returns
returns g c = search (printing, c.in_ok-print.ensures.prints, c.in_ok-print_attr.ensures, c.print-2.ensures.prints)
