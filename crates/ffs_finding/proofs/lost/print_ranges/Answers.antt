use Rattle.std.proofs.Common.{arith}
use Rattle.ffs_volume.proofs.Results.{fails_with}
use Rattle.ffs_finding.proofs.Stretches.{at_begin, at_end, at_next, broke_at}
use Rattle.ffs_finding.proofs.lost.print_ranges.Goals as goal

pub loop-first-init : goal.loop-first-init
loop-first-init g c = search (arith, at_begin)

pub returns-in_err-print_range : goal.returns-in_err-print_range
returns-in_err-print_range g c = rw (fails_with _ c.from_residual.ensures.1) (record {
  text = broke_at _ _ _ _ c.loop-first.invariant c.loop-first-test.true c.first_with-end.ensures
      (rw c.word.ensures at c.in_err-print_range.ensures);
  any = tt;
})

pub loop-first-preserved : goal.loop-first-preserved
loop-first-preserved g c = at_next _ _ _ _ c.loop-first.invariant c.loop-first-test.true c.first_with-end.ensures
    (rw c.word.ensures at c.in_ok-print_range.ensures) c.first_with-first-in-loop-first.ensures

pub returns : goal.returns
returns g c =
    let p = at_end _ _ _ _ c.loop-first.invariant c.loop-first-test.false in
    record { text = p.0; any = p.1 }
