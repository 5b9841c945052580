use Rattle.ffs_report.proofs.Sinks.{printing}
use Rattle.ffs_report.proofs.tree_lines.print_numbered.Goals as goal

pub returns-in_err-print_number : goal.returns-in_err-print_number
returns-in_err-print_number g c = search (printing, c.in_err-print_number.ensures)

pub returns-in_err-print_shown : goal.returns-in_err-print_shown
returns-in_err-print_shown g c = search (printing, c.in_ok-print_number.ensures, c.in_err-print_shown.ensures)

pub returns : goal.returns
returns g c = search (printing, c.in_ok-print_number.ensures, c.in_ok-print_shown.ensures, c.print.ensures.prints)
