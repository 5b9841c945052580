use Rattle.ffs_report.proofs.Sinks.{printing}
use Rattle.ffs_report.proofs.print_line.print_block_count.Goals as goal

pub returns-in_err-print_number : goal.returns-in_err-print_number
returns-in_err-print_number g c = search (printing, c.in_err-print_number.ensures)

pub returns-in_err-print_count : goal.returns-in_err-print_count
returns-in_err-print_count g c = search (printing, c.in_ok-print_number.ensures, c.in_err-print_count.ensures)

pub returns : goal.returns
returns g c = search (printing, c.in_ok-print_number.ensures, c.in_ok-print_count.ensures, c.print_count-2.ensures)
