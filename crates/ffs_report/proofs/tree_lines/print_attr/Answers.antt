use Rattle.std.proofs.{Common.{◌≡◌, to_z, of_z, arith, w32, w64}, lemmas.Int.to_z-of_z}
use Rattle.ffs_report.proofs.Sinks.{printing}
use Rattle.ffs_report.proofs.tree_lines.print_attr.Goals as goal

pub returns-in_err-print_number : goal.returns-in_err-print_number
returns-in_err-print_number g c = search (printing, c.in_err-print_number.ensures)

pub returns-in_err-print_count : goal.returns-in_err-print_count
returns-in_err-print_count g c = search (printing, c.in_ok-print_number.ensures, c.in_err-print_count.ensures)

pub returns-in_err-print_octal : goal.returns-in_err-print_octal
returns-in_err-print_octal g c =
    search (printing, c.in_ok-print_number.ensures, c.in_ok-print_count.ensures, c.in_err-print_octal.ensures)

pub returns-in_err-print_number-2 : goal.returns-in_err-print_number-2
returns-in_err-print_number-2 g c =
    let mode = c.in_ok-print_octal.ensures in
    search (printing, c.in_ok-print_number.ensures, c.in_ok-print_count.ensures, mode, c.in_err-print_number-2.ensures)

pub returns : goal.returns
returns g c =
    let mode = c.in_ok-print_octal.ensures in
    let size = c.in_ok-print_number-2.ensures in
    let narrow : to_z w32 (of_z w32 c.args.attr.now.mtime) ≡ c.args.attr.now.mtime = grind (arith, to_z-of_z) in
    let wide : to_z w64 (of_z w64 c.args.attr.now.mtime) ≡ c.args.attr.now.mtime = grind (arith, to_z-of_z) in
    let mtime = rw (narrow, wide) at c.print_signed.ensures in
    search (printing, c.in_ok-print_number.ensures, c.in_ok-print_count.ensures, mode, size, mtime)
