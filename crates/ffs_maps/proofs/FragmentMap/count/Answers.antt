use Rattle.std.{proofs.Common.{arith, ℕ, ◌-◌, ◌*◌, ◌/◌, false}, specs.List.slice_index_or}
use Rattle.ffs_maps.{specs.Bits.bits_of, proofs.Counting.count_join_at}
use Rattle.ffs_maps.proofs.FragmentMap.count.Goals as goal

pub returns : goal.returns
returns c =
    let is_set = λ (f : ℕ). slice_index_or (bits_of c.args.self.now) f false in
    let first = c.div_ceil-first.result in
    let last = c.args.end / 64 in
    count_join_at is_set c.args.start (64 * last) c.args.end (c.args.end - 64 * last) _ _
    (omega (arith, c.div_ceil-first.ensures)) (omega arith)
    (count_join_at is_set c.args.start (64 * first) (64 * last) (64 * last - 64 * first) _ _
    (omega (arith, c.div_ceil-first.ensures)) (omega arith)
    c.count_in_word-before.ensures (c.count-words.ensures c.args.self.now.size (omega (arith, c.requires.below))))
    c.count_in_word-2.ensures
