use Rattle.ffs_volume.proofs.AcceptedLaws.{accepted_sound}
use Rattle.ffs_volume.proofs.laws.accepted_are_sound.Goals as goal

pub returns : goal.returns
returns c = accepted_sound
