use Rattle.std.proofs.{Common.{◌∙◌, ap, take, arith}, lemmas.{List.take-take, Simd.{zip2_of_maps, zip2_splat}}}
use Rattle.std.proofs.lemmas.Simd.{length-chunk}
use Rattle.ffs_layout.{specs.Entry.any_nul_or_slash, proofs.Lanes.lanes_tell}
use Rattle.ffs_layout.proofs.entries.has_nul_or_slash_in_first.Goals as goal

pub returns : goal.returns
returns c =
    let v = take 16 c.args.bytes.now in
    let long = length-chunk 0 16 c.args.bytes.now c.requires.1 in
    lanes_tell v _ c.args.len (omega (arith, long)) (omega (arith, long))
    (zip2_of_maps _ _ _ v (zip2_splat _ v 16 0 long) (zip2_splat _ v 16 47 long))
    ∙ ap any_nul_or_slash (take-take c.args.len 16 c.args.bytes.now c.requires.0)
