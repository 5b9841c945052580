use Rattle.std.proofs.Common.{ap, arith, refl, ◌∙◌, ◌≤◌, ◌+◌, ◌*◌, ◌/◌, ◌^◌}
use Rattle.std.proofs.lemmas.List.FromFn.{length-map-range_with_len}
use Rattle.ffs_maps.specs.Bits.{bits_of}
use Rattle.ffs_groups.specs.Free.{word_bits, bits_from, free_in}
use Rattle.ffs_groups.proofs.Adding.{added_join, added_below, word_block, word_fits}
use Rattle.ffs_groups.proofs.free.FreeSpace.add_words.Goals as goal

pub add_word-requires : goal.add_word-requires
add_word-requires c =
    let free = free_in (bits_of c.args.used.now) c.args.used.now.size in
    record {
      some = c.requires.some;
      few = c.requires.few;
      room = word_fits c.min-some.result c.args.frag (omega (arith, c.min-some.ensures));
      below = added_below (bits_from free c.args.start c.args.frag) c.loop-block.block (2 ^ 61) (2 ^ 62)
          c.args.self.now c.loop-block.self c.loop-block.invariant.added
          (λ b. omega (
            arith,
            length-map-range_with_len free (c.args.start + b * c.args.frag) c.args.frag,
            c.requires.few,
          ))
          c.requires.below (omega (arith, c.loop-block.auto.block-fits));
    }

pub loop-block-preserved : goal.loop-block-preserved
loop-block-preserved c =
    let free = free_in (bits_of c.args.used.now) c.args.used.now.size in
    let some : c.min-some.result ≤ 64 / c.args.frag = omega (arith, c.min-some.ensures) in
    record {
      added = added_join (bits_from free c.args.start c.args.frag)
          (λ b. word_bits (c.clear_bits-word.result / 2 ^ (b * c.args.frag)) 0 c.args.frag)
          c.loop-block.block c.min-some.result _ c.loop-block.self c.add_word.new.self
          c.loop-block.invariant.added c.add_word.ensures
          (λ k h. word_block free c.clear_bits-word.result c.args.start c.args.frag c.loop-block.block k
          c.min-some.result
          (λ j low. c.clear_bits-word.ensures j low
          ∙ ap free (rw (c.from.ensures, c.from-in-loop-block.ensures) refl))
          h (word_fits c.min-some.result c.args.frag some));
      within = omega (arith, c.min-some.ensures);
    }
