use Rattle.std.proofs.Common.{arith, refl, ap, ◌≡◌, ◌+◌, ◌*◌, ◌/◌, ◌^◌, ◌≤◌}
use Rattle.ffs_groups.{specs.Free.word_bits, proofs.Adding.{length_bits, added_more, added_below}}
use Rattle.ffs_groups.proofs.FreeWords.{zero_word, full_word, added_single}
use Rattle.ffs_groups.proofs.free.FreeSpace.add_word.Goals as goal

pub add_block-requires : goal.add_block-requires
add_block-requires c =
    let few : c.loop-block.block ≤ 64 = grind arith in
    record {
      some = c.requires.some;
      few = c.requires.few;
      room = omega (arith, c.requires.few);
      below = added_below (λ b. word_bits (c.args.word / 2 ^ (b * c.args.frag)) 0 c.args.frag) c.loop-block.block
          (2 ^ 62)
          (2 ^ 63) c.args.self.now c.loop-block.self c.loop-block.invariant
          (λ b. omega (arith, length_bits (c.args.word / 2 ^ (b * c.args.frag)) 0 c.args.frag, c.requires.few))
          c.requires.below (omega (arith, few));
    }

pub loop-block-preserved : goal.loop-block-preserved
loop-block-preserved c = search (arith, added_more)

pub returns : goal.returns
returns c = let all : c.loop-block.block ≡ c.args.blocks = omega arith in rw all at c.loop-block.invariant

pub returns-then-blocks-gt0 : goal.returns-then-blocks-gt0
returns-then-blocks-gt0 c =
    let few : c.args.blocks ≤ 64 = grind arith in
    added_single c.args.word c.args.frag c.args.blocks c.args.self.now _ c.if-frag-eq1.true few
    (ap (λ n. c.args.self.now.blocks + n) c.from-then-blocks-gt0.ensures) refl (λ j. refl)

pub returns-then-word-eq0 : goal.returns-then-word-eq0
returns-then-word-eq0 c =
    zero_word c.args.word c.args.frag c.args.blocks c.args.self.now c.if-word-eq0.true c.requires.some

pub returns-then-word-eq18446744073709551615 : goal.returns-then-word-eq18446744073709551615
returns-then-word-eq18446744073709551615 c =
    full_word c.args.word c.args.frag c.args.blocks c.args.self.now _ c.if-word-eq18446744073709551615.true
    c.requires.room
    (ap (λ n. c.args.self.now.blocks + n) c.from.ensures) refl (λ j. refl)
