use Rattle.ffs_volume.{proofs.{AreaLaws.copy_inside, Results.fails_with}, specs.Disk.Outcome.copy_place}
use Rattle.std.proofs.Common.{arith, ◌≡◌, ◌*◌, refl}
use Rattle.ffs_layout.proofs.superblock.check_copy.Goals as goal

pub returns-in_err-read_superblock_bytes-clause-compared : goal.returns-in_err-read_superblock_bytes-clause-compared
returns-in_err-read_superblock_bytes-clause-compared g c =
    let v = c.args.geometry.now.layout in
    let place : c.from.result * c.from-2.result ≡ copy_place v =
    rw (c.from.ensures, c.cgsblock.ensures, c.from-2.ensures) refl in
    rw (fails_with _ c.from_residual.ensures.1) (grind (arith, copy_inside))
