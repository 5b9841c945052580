use Rattle.ffs_certificate.proofs.Rising.{all_blocks_rise}
use Rattle.ffs_certificate.proofs.blocks_rise.Goals as goal

pub returns : goal.returns
returns c = all_blocks_rise
