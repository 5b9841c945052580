use Rattle.ffs_volume.specs.{Blocks.Owners.owners_of, Directories.Volumes.class_at}
use Rattle.ffs_certificate.proofs.GroupLaws.{blocks_and_groups}
use Rattle.ffs_certificate.proofs.blocks_and_groups_are_certified.Goals as goal

pub returns : goal.returns
returns c = λ v image totals. blocks_and_groups v image totals (owners_of v image) (class_at v image)
