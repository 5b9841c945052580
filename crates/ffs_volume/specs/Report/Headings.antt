-- The headings of the phases in the text of a report, and the sections that they begin.
use Rattle.std.specs.Prelude.{◌≡◌, List, [], ◌∷◌, ◌++◌, Option, Some, None}
use Rattle.ffs_volume.specs.declared.End.{End, TheVariants.{Consistent, Defects, Refused, RootStop, ReadFault}}
use Rattle.ffs_volume.specs.{declared.End.TheVariants.{WriteFault, NoMemory}, Messages.Kinds.Message}
use Rattle.ffs_volume.specs.Messages.Kinds.{phase1, phase2, phase3, phase4, phase5}

-- a text begins with this heading and some lines, and what comes after them follows it
pub record Section (heading : Message) (Follows : List Message → Type 0) (text : List Message) : Type 0 where
  pub lines : List Message
  pub rest : List Message
  pub text_is : text ≡ heading ∷ (lines ++ rest)
  pub follows : Follows rest

-- a text is made of sections, one after each of these headings, in their order
abbrev pub HasSections : (headings text : List Message) → Type 0
HasSections [] text = text ≡ []
HasSections (heading ∷ headings) text = Section heading (HasSections headings) text

-- the headings of a check that continues after the root
abbrev pub all_headings : List Message
all_headings = phase1 ∷ phase2 ∷ phase3 ∷ phase4 ∷ phase5 ∷ []

-- the headings that are printed before an end: up to the root's message, or, before a read that failed, that of phase
-- 1 at least. Of the other ends nothing is said
abbrev pub headings_before : End → Option (List Message)
headings_before Consistent = Some all_headings
headings_before Defects = Some all_headings
headings_before RootStop = Some (phase1 ∷ phase2 ∷ [])
headings_before (ReadFault sector) = Some (phase1 ∷ [])
headings_before (Refused fault) = None
headings_before WriteFault = None
headings_before NoMemory = None
