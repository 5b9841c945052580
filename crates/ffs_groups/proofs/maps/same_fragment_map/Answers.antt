use Rattle.std.proofs.Common.{arith, rules, refl, ap, sym, ◌∙◌, ◌≡◌, ◌+◌, ◌*◌, ◌/◌, ◌%◌, true, false, ◌&&◌}
use Rattle.ffs_volume.specs.Groups.Records.{has_bits}
use Rattle.ffs_maps.specs.Bits.{bits_of}
use Rattle.ffs_groups.{specs.Free.free_in, proofs.{Adding.fragment_map, MapWords.same_below}}
use Rattle.ffs_groups.proofs.maps.same_fragment_map.Goals as goal

pub returns-then-not-all_same_words : goal.returns-then-not-all_same_words
returns-then-not-all_same_words c =
    let used = c.args.used.now in
    let block = c.args.block.now in
    let n = c.group_fragments-fragments.result in
    let differ : c.all_same_words.result ≡ false = search rules in
    let last = has_bits block (c.args.place + 8 * (n / 64)) (n % 64)
    (λ k. free_in (bits_of used) used.size (c.cgbase-base.result + 64 * (n / 64) + k)) in
    sym (ap (λ b. b && last) differ)
    ∙ fragment_map (bits_of used) used.size c.args.geometry.now.layout.size block c.args.place n _
    c.cgbase-base.result _ (c.cgbase-base.result + 64 * (n / 64)) _ c.all_same_words.result last
    c.requires.fragments.size c.group_fragments-fragments.ensures.value
    c.cgbase-base.ensures.value refl refl c.all_same_words.ensures refl

pub returns : goal.returns
returns c =
    let used = c.args.used.now in
    let block = c.args.block.now in
    let n = c.group_fragments-fragments.result in
    let at = c.args.place + 8 * (n / 64) in
    let last = c.from.result + 64 * c.from-2.result in
    let agree : c.all_same_words.result ≡ true = search rules in
    let end : c.same_bits.result ≡ has_bits block at (n % 64) (λ k. free_in (bits_of used) used.size (last + k)) =
    grind (arith, same_below) in
    sym (ap (λ b. b && c.same_bits.result) agree)
    ∙ fragment_map (bits_of used) used.size c.args.geometry.now.layout.size block c.args.place n _
    c.cgbase-base.result _ last at c.all_same_words.result c.same_bits.result
    c.requires.fragments.size c.group_fragments-fragments.ensures.value c.cgbase-base.ensures.value
    (omega (arith, c.from.ensures, c.from-2.ensures)) refl c.all_same_words.ensures end
