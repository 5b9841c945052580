-- The headings of the phases in what goes out of a check of any image: also of one that gives contracts no bytes, or
-- other ones each time.
use Rattle.std.specs.Prelude.{List, ◌++◌}
use Rattle.ffs_volume.specs.{Messages.{Kinds.Message, Texts.texts_of}, Report.Headings.HasSections}
use Rattle.ffs_report.specs.Sink.{Sink, Took}

-- messages went out after `first`, in the sections of these headings
pub record TookSections (first : List Message) (old new : Sink) (headings : List Message) : Type 0 where
  pub messages : List Message
  pub took : Took old new (texts_of (first ++ messages))
  pub sections : HasSections headings messages
