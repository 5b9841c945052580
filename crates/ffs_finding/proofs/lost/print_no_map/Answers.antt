use Rattle.std.proofs.Common.{refl}
use Rattle.ffs_finding.proofs.Printing.{one}
use Rattle.ffs_finding.proofs.lost.print_no_map.Goals as goal

pub returns-in_ok-print_number-in-Lost : goal.returns-in_ok-print_number-in-Lost
returns-in_ok-print_number-in-Lost g c =
    rw (c.in-Lost.is) (record { text = one (rw (c.from.ensures) at c.in_ok-print_number-in-Lost.ensures); any = refl })
