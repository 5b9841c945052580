-- How the phases of a check end, how often they read, and what they leave. `knows` is what is known of the
-- image's bytes, and `s` the superblock: with it the bytes determine the text, and whether the check
-- continues after the root. What Said, SaidOf, SaidNotAll and their like differ in is in a table at the top of
-- specs/Lib.antt of ffs_report.
use Rattle.std.specs.Prelude.{◌≡◌, ◌⊎◌, ◌<◌, ◌≤◌, ℕ, Bool, false, true, not, ◌||◌, List, [], ◌∷◌, ◌++◌, length, Result}
use Rattle.std.specs.Prelude.{Ok, Err, IfOk, IfSome, is_ok}
use Rattle.ffs_image.specs.{Device.{Device, Faulted}, Known.{ForBytes, IsContents}}
use Rattle.ffs_volume.specs.declared.End.{End, TheVariants.{Consistent, Defects, Refused, RootStop, ReadFault}}
use Rattle.ffs_volume.specs.{declared.End.TheVariants.{WriteFault, NoMemory}, Disk.Superblock.Superblock}
use Rattle.ffs_volume.specs.{Directories.{PathnameCheck.continues_after_root, Volumes.volume_of}, Report.Whole.end_by}
use Rattle.ffs_volume.specs.{Report.Whole.phase_lines, Messages.Kinds.{Message, cannot_alloc, cannot_read, has_defect}}
use Rattle.ffs_volume.specs.{Messages.Kinds.{phase1, phase2, stops_check}, Report.Memory.{runs_limit, held_of}}
use Rattle.ffs_volume.specs.{Report.{Opening.super_lines, Headings.{HasSections, all_headings}}, declared.Layout.Layout}
use Rattle.ffs_volume.specs.Report.Headings.{headings_before}
use Rattle.ffs_report.specs.{PhaseOutcome.{FirstMessages, ImageAfter, SaidOf, SaysThenReads}, Progress.{Progress, Said}}
use Rattle.ffs_report.specs.{Progress.Stopped, declared.fault.RunFault.{RunFault, TheVariants.{Read, Out}}}
use Rattle.ffs_pathnames.specs.{declared.pass2.Root.{Root, TheVariants.{Go, Stop}}, RootAnswers.is_go}
use Rattle.ffs_memory.specs.Account.{Account}
use Rattle.ffs_workspace.specs.{declared.workspace.Workspace.Workspace, Found.WithFresh, Holds.HoldsFindings}
use Rattle.ffs_workspace.specs.{Lengths.IsFor, Ready.IsReady}
use Rattle.ffs_check.specs.{Ends.{Cut, Ends}, Headings.TookSections, Reads.PhasesRead, Rescan.{AnswersDups, HasAnswers}}
use Rattle.ffs_check.specs.{Moment.{Moment, ReportMoment, at_output}, Taken.TakesBytes}

-- a read failed before the text was complete: whole messages were said, and others were to come
pub record SaidNotAll (knows : List ℕ → Type 0) (all : List ℕ → List Message) (old new : Progress) : Type 0 where
  pub rest : List ℕ → List Message
  pub prefix : SaidOf knows rest all old new
  pub more : ForBytes knows (λ bytes. 0 < length (rest bytes))

-- the last message of a text, and whether the check stops after it
pub record LastStops (stops : Bool) (text : List Message) : Type 0 where
  pub before : List Message
  pub last : Message
  pub text_is : text ≡ before ++ (last ∷ [])
  pub stops_is : stops_check last ≡ stops

-- all messages were said, and the last of them says whether the check stopped after the root
pub record SaidWhole (stops : Bool) (knows : List ℕ → Type 0) (all : List ℕ → List Message) (old new : Progress) :
    Type 0 where
  pub said : SaidOf knows (λ bytes. []) all old new
  pub last : LastStops stops said.messages

-- PhaseReports of all phases together, which also says whether the last message stops the check, and that one is
-- missing at a read's fault: all messages at Ok, whole ones but not all at that fault, a prefix of their bytes at
-- a fault of the output
abbrev pub ReportsAllPhases : (List ℕ → Type 0) → (List ℕ → List Message) → (old new : Progress) →
    Result Root RunFault → Type 0
ReportsAllPhases knows all old new (Ok root) = SaidWhole (not (is_go root)) knows all old new
ReportsAllPhases knows all old new (Err (Read fault)) = SaidNotAll knows all old new
ReportsAllPhases knows all old new (Err (Out fault)) = FirstMessages knows all (Stopped old new)

-- the phases have run: what they leave of the image; and, where the workspace held nothing before, what they reported,
-- and whether the check continues after the root
pub record HaveRun (s : Superblock) (w : Workspace) (old new : ReportMoment) (result : Result Root RunFault) : Type 0
  where
    pub image : ImageAfter old.image new.image result
    pub text : ReportsAllPhases (WithFresh s.layout old.image w) (λ bytes. phase_lines bytes s) old.report new.report
        result
    pub goes : IfOk result (λ root. ForBytes (WithFresh s.layout old.image w)
        (λ bytes. is_go root ≡ continues_after_root (volume_of s.layout bytes)))

-- the headings that are said by the answer of the phases: before a fault that of phase 1, at least
abbrev pub headings_of : Result Root RunFault → List Message
headings_of (Ok Go) = all_headings
headings_of (Ok Stop) = phase1 ∷ phase2 ∷ []
headings_of (Err fault) = phase1 ∷ []

-- of any image: messages were said in the sections of these headings, or the output failed among them
pub record SaysSections (old new : Progress) (result : Result Root RunFault) : Type 0 where
  pub messages : List Message
  pub says : SaysThenReads messages old new result
  pub sections : HasSections (headings_of result) messages

-- what a check leaves of the counts of Runs and of what `has_dups` answers: after a whole report, also one that stops
-- at the root (`whole`), what the bytes determine, and else what `has_dups` may answer; and phase 1 looked at no more
-- Runs than a volume can have
pub record AnswersAfterPhases (whole : Bool) (knows : List ℕ → Type 0) (v : Layout) (w w' : Workspace) : Type 0 where
  pub known : whole ≡ true → ForBytes knows (λ bytes. HasAnswers v bytes w w')
  pub dups : ForBytes knows (λ bytes. AnswersDups v bytes w w')
  pub most : w'.runs_seen ≤ runs_limit v

-- after the phases the workspace says how many Runs were looked at, and is ready for the image as it is now; where
-- none failed it holds what they found
pub record PhasesLeave (v : Layout) (d d' : Device) (w w' : Workspace) (result : Result Root RunFault) : Type 0 where
  pub answers : AnswersAfterPhases (is_ok result) (WithFresh v d w) v w w'
  pub holds : is_ok result ≡ true → ForBytes (WithFresh v d w) (λ bytes. HoldsFindings v bytes w')
  pub ready : IsReady v d' w'

-- the line of a failed read or of refused memory was said, and this is the end; or the output failed in it
abbrev pub LineEnds : (old new : Progress) → Message → (cut_end end : End) → Type 0
LineEnds old new line cut_end end =
    (Said old new (line ∷ []) × (end ≡ cut_end)) ⊎ (Stopped old new (line ∷ []) × (end ≡ WriteFault))

-- the line of a failed read was said, or the output failed in it
abbrev pub SaysReadFault : (old new : Progress) → ℕ → End → Type 0
SaysReadFault old new sector end = LineEnds old new (cannot_read sector) (ReadFault sector) end

-- the line of a refused memory was said, or the output failed in it
abbrev pub SaysNoMemory : (old new : Progress) → End → Type 0
SaysNoMemory old new end = LineEnds old new cannot_alloc NoMemory end

-- the end that an answer of the phases makes, by the defects of this report, and by whether an
-- opening that another report said had one (`had_defect`); a failed read is said
abbrev pub MakesEnd : Bool → (old new : Progress) → Result Root RunFault → End → Type 0
MakesEnd had_defect old new (Ok root) end = (new ≡ old) × (end ≡ end_by (is_go root) (had_defect || old.defect))
MakesEnd had_defect old new (Err (Read fault)) end = SaysReadFault old new fault.sector end
MakesEnd had_defect old new (Err (Out fault)) end = (new ≡ old) × (end ≡ WriteFault)

-- the end is by whether the check continued after the root, as the last message says, and by whether a defect
-- was reported
pub record IsEndByRoot (knows : List ℕ → Type 0) (s : Superblock) (text : List Message) (end : End) : Type 0 where
  pub continued : Bool
  pub by_root : ForBytes knows (λ bytes. continued ≡ continues_after_root (volume_of s.layout bytes))
  pub last : LastStops (not continued) text
  pub end_is : end ≡ end_by continued (has_defect (super_lines s ++ text))

-- a read failed before the text was complete: whole messages of it were said, and others were to come
pub record IsCutByRead (knows : List ℕ → Type 0) (text : List Message) (image image' : Device) (cut : Cut) : Type 0
  where
    pub sector : ℕ
    pub faulted : Faulted image image' sector
    pub rest : List Message
    pub makes_text : cut.said ++ rest ≡ text
    pub more : ForBytes knows (λ bytes. 0 < length rest)
    pub line_is : cut.line ≡ cannot_read sector
    pub end_is : cut.end ≡ ReadFault sector

-- the messages of the phases on the image's bytes went out, or what a fault leaves of them. The end counts
-- a defect that was reported among them, or in the opening. No end is `NoMemory`
pub record EndsAfterPhases (knows : List ℕ → Type 0) (s : Superblock) (old new : Moment) (end : End) : Type 0 where
  pub text : List Message
  pub right : ForBytes knows (λ bytes. text ≡ phase_lines bytes s)
  pub ends : Ends old new text (IsEndByRoot knows s text) (IsCutByRead knows text old.image new.image) end

-- an end that a whole report can have: also `Refused`, and `RootStop` (inode 2 is no directory)
abbrev pub can_end_report : End → Bool
can_end_report Consistent = true
can_end_report Defects = true
can_end_report (Refused fault) = true
can_end_report RootStop = true
can_end_report (ReadFault sector) = false
can_end_report WriteFault = false
can_end_report NoMemory = false

-- the phases have run to an end: what went out, also of any image, how often they read an image that gives its
-- bytes, and any image, what the workspace answers then, and holds after a whole report, and its lists keep their
-- lengths
pub record RunsToEnd (s : Superblock) (w w' : Workspace) (old new : Moment) (end : End) : Type 0 where
  pub ran : EndsAfterPhases (WithFresh s.layout old.image w) s old new end
  pub headings : IfSome (headings_before end) (TookSections [] old.out new.out)
  pub reads : PhasesRead (WithFresh s.layout old.image w) s old new
  pub answers : AnswersAfterPhases (can_end_report end) (WithFresh s.layout old.image w) s.layout w w'
  pub holds : can_end_report end ≡ true → ForBytes (WithFresh s.layout old.image w)
      (λ bytes. HoldsFindings s.layout bytes w')
  pub made : IsFor s.layout w'

-- what follows an accepted superblock: the memory of the check was refused, and that was said; or
-- its phases have run
abbrev pub SaysRest : Superblock → (old new : ReportMoment) → End → Type 0
SaysRest s old new end =
    ((new.image ≡ old.image) × SaysNoMemory old.report new.report end)
    ⊎ EndsAfterPhases (IsContents old.image.contents) s (at_output old) (at_output new) end

-- what an accepted superblock leads to: what is said, what is taken of the memory, and how often the
-- image is read
pub record FollowsAccepted (s : Superblock) (before after : Account) (old new : ReportMoment) (end : End) : Type 0 where
  pub followed : SaysRest s old new end
  pub headings : IfSome (headings_before end) (TookSections [] old.report.sink new.report.sink)
  pub memory : TakesBytes (held_of s.layout) before after end
  pub reads : PhasesRead (IsContents old.image.contents) s (at_output old) (at_output new)
