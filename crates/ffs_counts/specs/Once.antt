-- The messages that are reported once.
use Rattle.std.specs.Prelude.{List, [], ◌∷◌, if◌then◌else◌}
use Rattle.ffs_volume.specs.declared.BlockMessage.{BlockMessage}
use Rattle.ffs_volume.specs.Groups.GroupCheck as groups
use Rattle.ffs_counts.specs.declared.once.AlreadyReported.{AlreadyReported}

-- which of the messages that come once were reported, as the book has it
abbrev pub reported_of : AlreadyReported → groups.AlreadyReported
reported_of once = record { counts = once.counts; maps = once.maps; sums = once.sums }

-- which of the messages that come once are reported after these messages
abbrev pub reported_after : groups.AlreadyReported → List BlockMessage → groups.AlreadyReported
reported_after t [] = t
reported_after t (m ∷ ms) =
    if groups.is_reported t m then reported_after t ms else reported_after (groups.note_reported t m) ms
