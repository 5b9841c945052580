use Rattle.std.proofs.Common.{arith, ap, ◌∙◌, ◌≡◌, ◌+◌}
use Rattle.ffs_maps.specs.{Bits.bits_of, WordBits.set_among}
use Rattle.ffs_counts.proofs.ReservedCount.{set_apart}
use Rattle.ffs_counts.proofs.summing.claimed_count.Goals as goal

pub returns : goal.returns
returns c = λ size has.
    let v = c.args.geometry.now.layout in
    let used = bits_of c.args.used.now in
    let ones : c.count_ones.result ≡ set_among used 0 v.size =
    c.count_ones.ensures ∙ ap (set_among used 0) size in
    omega (
      arith,
      ones,
      c.reserved_count.ensures,
      c.saturating_sub.ensures,
      set_apart v used 0 v.size (λ k h. has (0 + k) (omega (arith, h))),
    )
