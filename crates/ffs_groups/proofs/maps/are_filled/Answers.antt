use Rattle.std.proofs.Common.{arith, refl, ap, sym, ◌∙◌, ◌≡◌, ◌+◌, ◌*◌, ◌&&◌}
use Rattle.ffs_volume.specs.Groups.Records.{bit_at as map_bit, same_bit, has_bits}
use Rattle.ffs_groups.proofs.MapWords.{map_parts, none_below, same_below}
use Rattle.ffs_groups.proofs.maps.are_filled.Goals as goal

pub loop-index-init : goal.loop-index-init
loop-index-init c = sym (none_below (λ k. same_bit (map_bit c.args.block.now c.args.place k) c.args.bit))

pub loop-index-preserved : goal.loop-index-preserved
loop-index-preserved c =
    let block = c.args.block.now in
    let bit = c.args.bit in
    let index = c.loop-index.index in
    let at = c.args.place + 8 * index in
    let word : c.same_bits-same.result ≡ has_bits block at 64 (λ _. bit) = grind (arith, same_below) in
    ap (λ b. b && c.same_bits-same.result) c.loop-index.invariant
    ∙ ap (λ b. has_bits block c.args.place (64 * index) (λ _. bit) && b) word
    ∙ sym (map_parts block c.args.place index 64 (64 * (index + 1)) at 0 (λ _. bit) (omega arith) refl)
