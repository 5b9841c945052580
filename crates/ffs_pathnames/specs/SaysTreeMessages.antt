-- Messages on directories, said one after another.
use Rattle.std.specs.Prelude.{List, ◌++◌, map, Result}
use Rattle.ffs_volume.specs.Messages.Kinds.{TreeMessage, of_directory, of_dot, of_entry, of_tree, reported}
use Rattle.ffs_volume.specs.Messages.Texts.{directory_message, dot_message, entry_message}
use Rattle.ffs_report.specs.Progress.{Progress, Says}
use Rattle.ffs_pathnames.specs.declared.say.{LineIf.LineIf, Phase2Line.{Phase2Line, TheVariants.{Directory, Dot, Entry}}}

-- the outcome of saying these messages
abbrev pub SaysTreeMessages : {T E : Type 0} → (old new : Progress) → List TreeMessage → Result T E → Type 0
SaysTreeMessages old new messages result = Says old new (map of_tree messages) result

-- the message of a line of phase 2
abbrev pub phase2_message : Phase2Line → TreeMessage
phase2_message (Directory line) = of_directory (directory_message line)
phase2_message (Dot line) = of_dot (dot_message line)
phase2_message (Entry line) = of_entry (entry_message line)

-- two messages, each where its test holds
abbrev pub two_reported : LineIf → LineIf → List TreeMessage
two_reported a b = reported a.holds (phase2_message a.line) ++ reported b.holds (phase2_message b.line)
