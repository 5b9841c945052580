use Rattle.ffs_report.proofs.Sinks.{printing}
use Rattle.ffs_report.proofs.tree_lines.print_extraneous.Goals as goal

pub returns-in_err-print_shown : goal.returns-in_err-print_shown
returns-in_err-print_shown g c = search (printing, c.in_err-print_shown.ensures)

pub returns-in_err-print : goal.returns-in_err-print
returns-in_err-print g c = search (printing, c.in_ok-print_shown.ensures, c.in_err-print.ensures.prints)

pub returns-in_err-print_shown-2 : goal.returns-in_err-print_shown-2
returns-in_err-print_shown-2 g c =
    search (printing, c.in_ok-print_shown.ensures, c.in_ok-print.ensures.prints, c.in_err-print_shown-2.ensures)

pub returns : goal.returns
returns g c =
    let path = c.in_ok-print_shown.ensures in
    search (printing, path, c.in_ok-print.ensures.prints, c.in_ok-print_shown-2.ensures, c.print-2.ensures.prints)
