use Rattle.std.proofs.Common.{◌∙◌, ◌∷◌, ◌++◌, ◌==◌, ◌/◌, ◌^◌, [], ap, refl, drop, not, eqb, arith}
use Rattle.std.{proofs.lemmas.Simd.{bitmask_splat, pick_l_whole}, specs.List.range_with_len}
use lib.Lanes.{pick_l}
use mir.Syntax.{w32}
use Rattle.ffs_volume.specs.Blocks.Inodes.{any_nonzero}
use Rattle.ffs_walk.proofs.AnySet.{mask_from, zero_after}
use Rattle.ffs_walk.proofs.class.any_address_from.Goals as goal

pub returns : goal.returns
returns c =
    let from = c.args.from in
    let all = pick_l 0 c.args.addresses.now (range_with_len 0 15) in
    ap (λ bits. not (bits / 2 ^ from == 0))
    (bitmask_splat w32 (λ x y. not (eqb x y)) (all ++ 0 ∷ []) 16 0 refl (omega arith))
    ∙ mask_from (all ++ 0 ∷ []) from
    ∙ zero_after all from
    ∙ ap (λ xs. any_nonzero (drop from xs)) (pick_l_whole 0 c.args.addresses.now 15 c.told-addresses)
