use Rattle.std.proofs.Common.{arith, ap, ◌+◌}
use Rattle.ffs_maps.proofs.Runs.{first_run, other_run}
use Rattle.ffs_maps.proofs.reserved.reserved_run.Goals as goal

pub returns-then-group-eq0 : goal.returns-then-group-eq0
returns-then-group-eq0 c =
    let g = c.args.geometry.now in
    first_run g.layout c.args.group _ g.sound c.requires c.if-group-eq0.true
    (ap (λ n. g.layout.csaddr + n) c.div_ceil-summary.ensures)

pub returns : goal.returns
returns c = search (arith, other_run)
