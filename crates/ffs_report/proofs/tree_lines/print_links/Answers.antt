use Rattle.std.proofs.{Common.{◌≡◌, to_z, of_z, arith, w16, w64}, lemmas.Int.to_z-of_z}
use Rattle.ffs_report.proofs.Sinks.{printing}
use Rattle.ffs_report.proofs.tree_lines.print_links.Goals as goal

pub returns-in_err-print_labelled : goal.returns-in_err-print_labelled
returns-in_err-print_labelled g c = search (printing, c.in_err-print_labelled.ensures)

pub returns-in_err-print_signed : goal.returns-in_err-print_signed
returns-in_err-print_signed g c =
    let narrow : to_z w16 (of_z w16 c.args.count) ≡ c.args.count = grind (arith, to_z-of_z) in
    let wide : to_z w64 (of_z w64 c.args.count) ≡ c.args.count = grind (arith, to_z-of_z) in
    search (printing, c.in_ok-print_labelled.ensures, (rw (narrow, wide) at c.in_err-print_signed.ensures))

pub returns : goal.returns
returns g c =
    let narrow : to_z w16 (of_z w16 c.args.count) ≡ c.args.count = grind (arith, to_z-of_z) in
    let wide : to_z w64 (of_z w64 c.args.count) ≡ c.args.count = grind (arith, to_z-of_z) in
    let signed = rw (narrow, wide) at c.in_ok-print_signed.ensures in
    search (printing, c.in_ok-print_labelled.ensures, signed, c.print_count.ensures)
