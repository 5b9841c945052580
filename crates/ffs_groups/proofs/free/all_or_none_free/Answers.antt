use Rattle.std.proofs.Common.{arith, ◌-◌}
use Rattle.ffs_maps.specs.Bits.{bits_of}
use Rattle.ffs_groups.proofs.Sums.{all_free, none_free}
use Rattle.ffs_groups.proofs.free.all_or_none_free.Goals as goal

pub returns-then-count-eq0 : goal.returns-then-count-eq0
returns-then-count-eq0 c = grind (arith, all_free)

pub returns-then-count-end : goal.returns-then-count-end
returns-then-count-end c = λ k h.
    none_free (bits_of c.args.used.now) c.args.used.now.size c.args.start (c.args.end - c.args.start)
    c.count-count.result k
    (omega (arith, c.requires.below, c.requires.order)) c.count-count.ensures c.if-count-end.true h
