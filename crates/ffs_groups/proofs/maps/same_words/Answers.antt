use Rattle.std.proofs.Common.{ap, arith, rules, ◌∙◌, sym, ◌≡◌, ◌+◌, ◌*◌, true, false}
use Rattle.ffs_maps.specs.Bits.{bits_of}
use Rattle.ffs_groups.{specs.Free.free_in, proofs.MapWords.{map_word, map_begins}}
use Rattle.ffs_groups.proofs.maps.same_words.Goals as goal

pub loop-word-init : goal.loop-word-init
loop-word-init c = grind (arith, map_begins)

pub returns-then-not-same_bits : goal.returns-then-not-same_bits
returns-then-not-same_bits c =
    let free = free_in (bits_of c.args.used.now) c.args.used.now.size in
    let differ : c.same_bits.result ≡ false = search rules in
    sym ((map_word c.args.block.now c.args.place (64 * c.args.words) c.loop-word.word 64 c.word_at-found.result
    c.clear_bits-right.result (λ k. free (c.args.base + k)) c.same_bits.result (omega (arith, c.loop-word-test.true))
    (omega (arith, c.loop-word-test.true)) c.loop-word.invariant
    (λ k h. c.word_at-found.ensures k (omega (arith, h)))
    (λ k h. c.clear_bits-right.ensures k h ∙ ap free (omega (arith, c.from.ensures, c.from-in-loop-word.ensures)))
    c.same_bits.ensures).1 differ)

pub loop-word-preserved : goal.loop-word-preserved
loop-word-preserved c =
    let free = free_in (bits_of c.args.used.now) c.args.used.now.size in
    let agree : c.same_bits.result ≡ true = search rules in
    (map_word c.args.block.now c.args.place (64 * c.args.words) c.loop-word.word 64 c.word_at-found.result
    c.clear_bits-right.result (λ k. free (c.args.base + k)) c.same_bits.result (omega (arith, c.loop-word-test.true))
    (omega (arith, c.loop-word-test.true)) c.loop-word.invariant
    (λ k h. c.word_at-found.ensures k (omega (arith, h)))
    (λ k h. c.clear_bits-right.ensures k h ∙ ap free (omega (arith, c.from.ensures, c.from-in-loop-word.ensures)))
    c.same_bits.ensures).0 agree
