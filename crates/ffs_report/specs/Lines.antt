-- The message of a line.
use Rattle.ffs_volume.specs.Messages.{Kinds.Message, Texts.{directory_message, dot_message, entry_message}}
use Rattle.ffs_volume.specs.Messages.Kinds as messages
use Rattle.ffs_report.specs.declared.line.{Line.Line, Heading.Heading as HeadingLine}
use Rattle.ffs_report.specs.declared.line.Line.TheVariants.{Location, ImageName, BadSuper, CannotRead, CannotAlloc}
use Rattle.ffs_report.specs.declared.line.Line.TheVariants.{Optimization, Minfree, Mounted, Heading, Block, Directory}
use Rattle.ffs_report.specs.declared.line.Line.TheVariants.{Dot, Entry, Reference, Summary}
use Rattle.ffs_report.specs.declared.line.Heading.TheVariants.{Phase1, Phase1b, Phase2, Phase3, Phase4, Phase5}

abbrev pub heading_message : HeadingLine → Message
heading_message Phase1 = messages.phase1
heading_message Phase1b = messages.phase1b
heading_message Phase2 = messages.phase2
heading_message Phase3 = messages.phase3
heading_message Phase4 = messages.phase4
heading_message Phase5 = messages.phase5

abbrev pub message_of : Line → Message
message_of (Location sector) = messages.location sector
message_of (ImageName name) = messages.image_name name.now
message_of (BadSuper fault) = messages.bad_super fault
message_of (CannotRead sector) = messages.cannot_read sector
message_of CannotAlloc = messages.cannot_alloc
message_of Optimization = messages.optimization
message_of (Minfree value) = messages.minfree value
message_of (Mounted mount) = messages.mounted mount.now
message_of (Heading heading) = heading_message heading
message_of (Block message) = messages.of_blocks message
message_of (Directory line) = messages.of_tree (messages.of_directory (directory_message line))
message_of (Dot line) = messages.of_tree (messages.of_dot (dot_message line))
message_of (Entry line) = messages.of_tree (messages.of_entry (entry_message line))
message_of (Reference line) = messages.of_tree (messages.of_reference line)
message_of (Summary files used free frags blocks tenths) = messages.summary files used free frags blocks tenths
