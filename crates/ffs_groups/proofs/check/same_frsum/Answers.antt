use Rattle.std.proofs.Common.{rules, arith, refl, sym, ◌≡◌, false}
use Rattle.ffs_volume.{specs.Disk.Numbers.all_below, proofs.Below.{all_below-fails, all_below-more}}
use Rattle.ffs_groups.specs.Check.{has_bits_of, same_frsum_at}
use Rattle.ffs_groups.proofs.check.same_frsum.Goals as goal

pub loop-length-init : goal.loop-length-init
unfolding all_below
loop-length-init c = refl

pub returns-then-from-right : goal.returns-then-from-right
unfolding has_bits_of
returns-then-from-right c =
    let differ : same_frsum_at c.args.found.now c.args.right.now c.loop-length.length ≡ false = search (rules, arith) in
    sym (all_below-fails 8 c.loop-length.length
    (λ k. same_frsum_at c.args.found.now c.args.right.now k) c.loop-length-test.true differ)

pub loop-length-preserved : goal.loop-length-preserved
unfolding has_bits_of
loop-length-preserved c = grind (arith, all_below-more)
