use Rattle.std.proofs.{Common.{◌≡◌, to_z, of_z, arith, w16}, lemmas.Int.to_z-of_z}
use Rattle.ffs_report.proofs.tree_lines.print_reference.Goals as goal

pub returns-in-LinkCount : goal.returns-in-LinkCount
returns-in-LinkCount g c =
    let back : to_z w16 (of_z w16 c.in-LinkCount.count) ≡ c.in-LinkCount.count = grind (arith, to_z-of_z) in
    rw (c.in-LinkCount.is) (rw back at c.print_links.ensures)
