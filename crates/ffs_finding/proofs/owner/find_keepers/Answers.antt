use Rattle.std.proofs.Common.{◌≡◌, false, arith}
use Rattle.ffs_volume.proofs.RunBounds.{runs_bounded}
use Rattle.ffs_image.specs.Known.{ForBytes}
use Rattle.ffs_finding.{specs.Claims.WithBlocks, proofs.owner.find_keepers.Goals.After-is_spent}
use Rattle.ffs_finding.proofs.owner.find_keepers.Given as given
use Rattle.ffs_finding.proofs.owner.find_keepers.Goals as goal

-- no more reads of known bytes are asked for than the limit
fits : (g : given.Over) (c : After-is_spent g) →
    ForBytes (WithBlocks c.args.geometry.now.layout (g.I.Image.device c.args.image.now) c.args.workspace.now)
    (λ bytes. c.is_spent.result ≡ false)
fits g c bytes k = grind (arith, runs_bounded)

pub returns-then-is_spent-clause-prints : goal.returns-then-is_spent-clause-prints
returns-then-is_spent-clause-prints g c = grind (arith, fits)

pub returns-clause-prints : goal.returns-clause-prints
returns-clause-prints g c = grind arith
