use Rattle.std.proofs.{Common.{arith, refl, ◌∙◌, ◌≡◌, ◌+◌, ◌*◌, ◌^◌}, lemmas.List.FromFn.length-map-range_with_len}
use Rattle.ffs_volume.specs.{Disk.Areas.cgbase, Groups.Records.block_bits}
use Rattle.ffs_maps.specs.Bits.{bits_of}
use Rattle.ffs_groups.{specs.Free.{bits_from, free_in, whole_in, loose_in, stretches_in}, proofs.Adding.whole_fits}
use Rattle.ffs_groups.proofs.Adding.{loose_fits, added_join, added_below, no_stretches, count_start}
use Rattle.ffs_groups.proofs.{FreeWords.{free_there, fits_blocks, fits_fragments}, Sums.block_from}
use Rattle.ffs_groups.proofs.free.free_counts.Goals as goal

pub add_blocks-alike-requires : goal.add_blocks-alike-requires
add_blocks-alike-requires c =
    let frag = c.args.geometry.now.layout.frag in
    let free = free_in (bits_of c.args.used.now) c.args.geometry.now.layout.size in
    record {
      some = omega (arith, c.args.geometry.now.sound.sizes.frag_low);
      few = c.args.geometry.now.sound.sizes.frag_high;
      near = grind arith;
      below = added_below (block_bits c.args.geometry.now.layout free c.args.group) c.loop-block.block 1 (2 ^ 61)
          _ c.loop-block.counts c.loop-block.invariant.added
          (λ b. omega (
            arith,
            length-map-range_with_len free (cgbase c.args.geometry.now.layout c.args.group + b * frag) frag,
            c.args.geometry.now.sound.sizes.frag_high,
          ))
          (record { blocks = omega arith; fragments = omega arith; frsum = λ k. omega (arith, no_stretches k) })
          (omega (arith, c.loop-block.auto.block-fits));
    }

pub loop-block-preserved : goal.loop-block-preserved
loop-block-preserved c =
    let frag = c.args.geometry.now.layout.frag in
    let used = bits_of c.args.used.now in
    let size = c.args.geometry.now.layout.size in
    record {
      added = added_join (block_bits c.args.geometry.now.layout (free_in used size) c.args.group)
          (bits_from (free_in used c.args.used.now.size)
          (c.from-base.result + c.from.result * c.from-in-loop-block.result) frag)
          c.loop-block.block c.min-many.result _ c.loop-block.counts c.add_blocks-alike.new.self
          c.loop-block.invariant.added c.add_blocks-alike.ensures
          (λ k h. block_from used c.args.used.now.size size c.from-base.result c.from.result
          c.from-in-loop-block.result (cgbase c.args.geometry.now.layout c.args.group) c.loop-block.block frag k
          c.requires.size (c.from-base.ensures ∙ c.cgbase.ensures.value) c.from.ensures c.from-in-loop-block.ensures);
      within = omega (arith, c.min-many.ensures);
      at_once = c.next_at_once-at_once.ensures;
    }

pub returns : goal.returns
returns c =
    let v = c.args.geometry.now.layout in
    let free = free_in (bits_of c.args.used.now) v.size in
    let bits = block_bits v free c.args.group in
    let n = c.div_ceil-blocks.result in
    let end : c.loop-block.block ≡ n = omega (arith, c.loop-block.invariant.within, c.loop-block-test.false) in
    let all = rw end at c.loop-block.invariant.added in
    let blocks = all.blocks ∙ count_start (λ b. whole_in (bits b)) n n 0 refl refl in
    let fragments = all.fragments ∙ count_start (λ b. loose_in (bits b)) n n 0 refl refl in
    let sizes = c.args.geometry.now.sound.sizes in
    free_there v (bits_of c.args.used.now) c.args.group n c.group_fragments.result c.loop-block.counts
    sizes.frag_low sizes.whole_blocks c.div_ceil-blocks.ensures c.group_fragments.ensures.within
    c.group_fragments.ensures.value
    blocks fragments (λ k. all.frsum k ∙ count_start (λ b. stretches_in k (bits b)) n n _ (no_stretches k) refl)
    (fits_blocks c.loop-block.counts.blocks _ n c.group_fragments.result v.frag v.size _ _ blocks (whole_fits bits n)
    sizes.frag_low sizes.frag_high c.div_ceil-blocks.ensures c.group_fragments.ensures.value
    c.args.geometry.now.sound.numbers.size_below)
    (fits_fragments c.loop-block.counts.fragments _ n c.group_fragments.result v.frag v.size _ _ fragments
    (loose_fits bits v.frag n (λ b. length-map-range_with_len free (cgbase v c.args.group + b * v.frag) v.frag))
    sizes.frag_low sizes.frag_high c.div_ceil-blocks.ensures c.group_fragments.ensures.value
    c.args.geometry.now.sound.numbers.size_below)
