use Rattle.std.proofs.Common.{arith, rules, ◌∙◌, sym, ◌≡◌, ◌+◌, ◌*◌, ◌<◌, true, false}
use Rattle.ffs_volume.specs.Groups.Records.{is_used_inode}
use Rattle.ffs_groups.{specs.Inodes.class_in, proofs.MapWords.{map_word, map_begins, moved_in}}
use Rattle.ffs_groups.proofs.maps.same_inode_map.Goals as goal

pub loop-word-init : goal.loop-word-init
loop-word-init c = grind (arith, map_begins)

pub returns-then-not-same_bits : goal.returns-then-not-same_bits
returns-then-not-same_bits c =
    let ipg = c.args.geometry.now.layout.ipg in
    let used = is_used_inode (class_in c.args.kinds.now) in
    let low : 64 * c.loop-word.word < ipg = omega (arith, c.loop-word-test.true, c.div_ceil-word-end.ensures) in
    let differ : c.same_bits.result ≡ false = search rules in
    sym ((map_word c.args.block.now c.args.place ipg c.loop-word.word c.min-count.result c.word_at-found.result
    c.used_word-right.result (λ k. used (c.args.group * ipg + k)) c.same_bits.result low
    (omega (arith, c.min-count.ensures)) c.loop-word.invariant
    (λ k h. c.word_at-found.ensures k (omega (arith, h, c.div_ceil.ensures)))
    (λ k h. c.used_word-right.ensures k h ∙ moved_in used (c.args.group * ipg) c.loop-word.word k)
    c.same_bits.ensures).1 differ)

pub loop-word-preserved : goal.loop-word-preserved
loop-word-preserved c =
    let ipg = c.args.geometry.now.layout.ipg in
    let used = is_used_inode (class_in c.args.kinds.now) in
    let low : 64 * c.loop-word.word < ipg = omega (arith, c.loop-word-test.true, c.div_ceil-word-end.ensures) in
    let agree : c.same_bits.result ≡ true = search rules in
    (map_word c.args.block.now c.args.place ipg c.loop-word.word c.min-count.result c.word_at-found.result
    c.used_word-right.result (λ k. used (c.args.group * ipg + k)) c.same_bits.result low
    (omega (arith, c.min-count.ensures)) c.loop-word.invariant
    (λ k h. c.word_at-found.ensures k (omega (arith, h, c.div_ceil.ensures)))
    (λ k h. c.used_word-right.ensures k h ∙ moved_in used (c.args.group * ipg) c.loop-word.word k)
    c.same_bits.ensures).0 agree
