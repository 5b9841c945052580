use Rattle.std.proofs.Common.{arith}
use Rattle.ffs_groups.proofs.{Stretches.next_stretch, Adding.{stretches_within, free_within}}
use Rattle.ffs_groups.proofs.free.FreeSpace.add_loose.Goals.{At-loop-index}
use Rattle.ffs_groups.proofs.free.FreeSpace.add_loose.Goals as goal

pub end_stretch-requires : goal.end_stretch-requires
end_stretch-requires c =
    let now = c.loop-index.invariant in
    let old = c.requires.below in
    record {
      few = omega (arith, c.min-stretch.ensures, c.requires.few);
      below = record {
        blocks = omega (arith, now.blocks, old.blocks);
        fragments = omega (arith, now.fragments, free_within c.args.bits c.args.frag, old.fragments);
        frsum = λ k. omega (arith, now.frsum k, stretches_within c.args.bits c.args.frag k, old.frsum k);
      };
    }

pub overflow_add-self : goal.overflow_add-self
overflow_add-self c = grind (arith, free_within)

pub loop-index-smaller : goal.loop-index-smaller
loop-index-smaller c = grind (arith, next_stretch)

pub loop-index-preserved : goal.loop-index-preserved
loop-index-preserved c =
    let now = c.loop-index.invariant in
    let (free, stretches, _, within) = next_stretch c.args.bits c.loop-index.index c.args.frag c.min-used.result
    c.min-stretch.result c.ranges.bits.fits c.loop-index-test.true c.requires.few c.min-used.ensures
    (rw c.trailing_ones.ensures at c.min-stretch.ensures) in
    record {
      fragments = omega (arith, c.end_stretch.ensures.fragments, now.fragments, free, c.from.ensures);
      frsum = λ k. omega (arith, c.end_stretch.ensures.frsum k, now.frsum k, stretches k);
      within = within;
      blocks = omega (arith, c.end_stretch.ensures.blocks, now.blocks);
    }
