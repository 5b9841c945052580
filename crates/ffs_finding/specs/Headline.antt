-- The headline: what the program prints of an image, and its status, by what it is asked for. It is
-- `FindsCommand`, below: `AnswersWith` says what is printed by an answer, and `EndsBy` how that ends.
use Rattle.std.specs.Prelude.{◌≡◌, ◌⊎◌, ◌≤◌, ◌+◌, ◌*◌, ◌/◌, ℕ, Bool, true, false, ◌&&◌, List, [], if◌then◌else◌, Option}
use Rattle.std.specs.Prelude.{Result, Ok, Err, IsOk, IfOk, ⊤}
use Rattle.ffs_image.specs.{Device.{Device, ForContents}, Known.IsContents}
use Rattle.ffs_volume.specs.declared.{Layout.Layout, SuperFault.{SuperFault, TheVariants.CannotRead}}
use Rattle.ffs_volume.specs.{Laws.Geometry.IsAcceptedLayout, declared.constants.TheConstants.DEV_BSIZE}
use Rattle.ffs_volume.specs.Disk.{Areas.{inode_place, FitsIn}, Superblock.Superblock, Outcome.{outcome, super_sector}}
use Rattle.ffs_volume.specs.{Messages.{Kinds.{cannot_read, cannot_alloc}, Texts.text_of}, Report.Opening.fault_line}
use Rattle.ffs_volume.specs.{Report.Reads.{opening_reads, scan_reads, sweep_reads}, Find.Copies.copies_lines}
use Rattle.ffs_volume.specs.Find.{InodeText.inode_listing, Fields.wrong_fields, Lost.lost_lines}
use Rattle.ffs_volume.specs.{Find.Owner.lines_of_fragment, Report.Memory.held_of}
use Rattle.ffs_report.specs.{Sink.Sink, declared.fault.RunFault.TheVariants.{Read, Out}}
use Rattle.ffs_memory.specs.Account.{Account, Granted, GaveUp, RefusedOneMore}
use Rattle.ffs_check.specs.{Moment.Moment, Run.IsPrintedOrBrokeOff, Taken.{AsksMemory, Takes}}
use Rattle.ffs_layout.specs.Super.{IsUnreadable, ReadsSuper}
use Rattle.ffs_finding.specs.declared.request.Target.{Target, TheVariants.{Inode, Fields, Lost, Owner}}
use Rattle.ffs_finding.specs.declared.request.Command.{Command, TheVariants.{Copies, InVolume}}
use Rattle.ffs_finding.specs.declared.find.FindFault.{FindFault, TheVariants.{Refused, Failed, NoMemory}}
use Rattle.ffs_finding.specs.{Outcome.{Finds, PrintedOf, any_line}, Fields.WithSuper, Copies.FailsBeforeCopy}
use Rattle.ffs_finding.specs.{Copies.{ReadsCopies, window_bytes}, Keepers.is_fixed_fragment, LostMaps.FailsForLost}
use Rattle.ffs_workspace.specs.Ready.{workspace_requests}

-- what is printed of a target in an image with this accepted superblock
abbrev pub target_lines : Target → (sector : Option ℕ) → (image : List ℕ) → Superblock → List (List ℕ)
target_lines (Inode number) sector image s = inode_listing s.layout image number
target_lines Fields sector image s = wrong_fields s image sector
target_lines Lost sector image s = lost_lines s.layout image
target_lines (Owner fragment) sector image s = lines_of_fragment s.layout image fragment

-- a line of the target is a defect
abbrev pub lines_are_defects : Target → Bool
lines_are_defects (Inode number) = false
lines_are_defects Fields = true
lines_are_defects Lost = true
lines_are_defects (Owner fragment) = false

-- a line of the command is a defect
abbrev pub command_lines_are_defects : Command → Bool
command_lines_are_defects Copies = false
command_lines_are_defects (InVolume target sector) = lines_are_defects target

-- the superblock of the command's volume is accepted in these bytes; `copies` asks for no volume
abbrev pub IsAcceptedIn : Command → (image : List ℕ) → Type 0
IsAcceptedIn Copies image = ⊤
IsAcceptedIn (InVolume target sector) image = IsOk (outcome image sector)

-- the lines by an outcome: those of a target, and none where the superblock is refused
abbrev pub lines_by : (Superblock → List (List ℕ)) → Result Superblock SuperFault → List (List ℕ)
lines_by lines (Ok s) = lines s
lines_by lines (Err fault) = []

-- all lines that a command finds in an image
abbrev pub command_lines : Command → (image : List ℕ) → List (List ℕ)
command_lines Copies image = copies_lines image
command_lines (InVolume target sector) image = lines_by (target_lines target sector image) (outcome image sector)

-- the status of an answer: 1 where a defect was found
abbrev pub status_of_answer : Bool → ℕ
status_of_answer defect = if defect then 1 else 0

-- all lines were printed, and the answer is whether one of them is a defect
pub record PrintedAll (are_defects : Bool) (knows : List ℕ → Type 0) (all : List ℕ → List (List ℕ)) (old new : Sink)
    (defect : Bool) : Type 0 where
  pub printed : PrintedOf knows (λ b. []) all old new
  pub defect_is : defect ≡ (are_defects && any_line printed.lines)

-- how lines are printed, by an answer: all of them, which says whether one is a defect; whole ones where a read failed;
-- a prefix of their bytes where the output failed; and none where the superblock or the memory is refused
abbrev pub AnswersWith : (are_defects : Bool) → (knows : List ℕ → Type 0) → (lines : List ℕ → List (List ℕ))
    → (old new : Moment) → Result Bool FindFault → Type 0
AnswersWith are_defects knows lines old new (Ok defect) =
    (new.image ≡ old.image) × PrintedAll are_defects knows lines old.out new.out defect
AnswersWith are_defects knows lines old new (Err (Refused fault)) = new.out ≡ old.out
AnswersWith are_defects knows lines old new (Err (Failed fault)) = Finds {T = Bool} knows lines old new (Err fault)
AnswersWith are_defects knows lines old new (Err NoMemory) = (new.image ≡ old.image) × (new.out ≡ old.out)

-- what must be so for an answer: at Ok the superblock is accepted; else it has this fault, a read may fail at this
-- sector, or a request for memory was refused
abbrev pub GroundsOf : Result Bool FindFault → (accepted : Type 0) → (refused : SuperFault → Type 0)
    → (unread : ℕ → Type 0) → (no_memory : Type 0) → Type 0
GroundsOf (Ok defect) accepted refused unread no_memory = accepted
GroundsOf (Err (Refused fault)) accepted refused unread no_memory = refused fault
GroundsOf (Err (Failed (Read fault))) accepted refused unread no_memory = unread fault.sector
GroundsOf (Err (Failed (Out fault))) accepted refused unread no_memory = ⊤
GroundsOf (Err NoMemory) accepted refused unread no_memory = no_memory

-- how often an image is read for a target after the superblock, in a volume of this layout: `lost` for phase 1 and
-- the block of each group twice, `owner` for phase 1 and a sweep over all inodes; that isn't made where the layout
-- says what the fragment is
abbrev pub target_reads : Target → Layout → ℕ
target_reads (Inode number) v = 1
target_reads Fields v = 1
target_reads Lost v = scan_reads v + 2 * v.ncg
target_reads (Owner fragment) v = scan_reads v + (if is_fixed_fragment v fragment then 0 else sweep_reads v)

-- the sector at which a read for a target failed, where `begun` reads were made at most before it: that of the inode,
-- or of the superblock. `lost` fails in phase 1, which prints nothing, or at the block of a group. Phase 1 and `owner` read
-- much, and nothing is said of where
abbrev pub IsReadForTarget : Target → (sector : Option ℕ) → Superblock → (knows : List ℕ → Type 0) → (begun : ℕ)
    → (old : Sink) → (new : Moment) → (at : ℕ) → Type 0
IsReadForTarget (Inode number) sector s knows begun old new at = at ≡ inode_place s.layout number / DEV_BSIZE
IsReadForTarget Fields sector s knows begun old new at = at ≡ super_sector sector
IsReadForTarget Lost sector s knows begun old new at =
    (new.out ≡ old) ⊎ FailsForLost knows s.layout (begun + scan_reads s.layout) old new at
IsReadForTarget (Owner fragment) sector s knows begun old new at = ⊤

-- the line of a fault was printed, or the output failed in it, and the status is 8
abbrev pub EndsByLine : (old new : Sink) → List ℕ → ℕ → Type 0
EndsByLine old new text status = IsPrintedOrBrokeOff old new text × (status ≡ 8)

-- nothing more is printed, and this is the status
abbrev pub EndsSilent : (old new : Sink) → (right status : ℕ) → Type 0
EndsSilent old new right status = (new ≡ old) × (status ≡ right)

-- how an answer ends: a fault of the image or of the memory has its line
abbrev pub EndsBy : (old new : Sink) → Result Bool FindFault → ℕ → Type 0
EndsBy old new (Ok defect) status = EndsSilent old new (status_of_answer defect) status
EndsBy old new (Err (Refused fault)) status = EndsByLine old new (text_of (fault_line fault)) status
EndsBy old new (Err (Failed (Read fault))) status = EndsByLine old new (text_of (cannot_read fault.sector)) status
EndsBy old new (Err (Failed (Out fault))) status = EndsSilent old new 8 status
EndsBy old new (Err NoMemory) status = EndsByLine old new (text_of cannot_alloc) status

-- the superblock of the command's volume is refused: a read of it failed, or this is its fault in the image's bytes.
-- Where the fault says that it can't be read, a read of it failed, or the image ends before it does
abbrev pub IsRefusedBy : Command → (d d' : Device) → SuperFault → Type 0
IsRefusedBy Copies d d' fault = ⊥
IsRefusedBy (InVolume target sector) d d' fault =
    ReadsSuper d d' sector (Err fault) × ((at : ℕ) → fault ≡ CannotRead at → IsUnreadable d d' sector at)

-- the sector at which a read for a command may fail: after its superblock that of its target. For `copies` it is a read
-- for the superblock at some sector, and just the lines of lesser sectors were printed
abbrev pub IsReadFor : Command → (old new : Moment) → (at : ℕ) → Type 0
IsReadFor Copies old new at = FailsBeforeCopy (IsContents old.image.contents) old.out new.out at
IsReadFor (InVolume target sector) old new at = ForContents old.image.contents
    (λ b. IfOk (outcome b sector) (λ s. IsReadForTarget target sector s (IsContents old.image.contents)
    (old.reads + opening_reads sector) old.out new at))

-- what a command takes of the memory: `copies` a window, `lost` and `owner` the workspace of a check
abbrev pub TakesMemory : Command → Device → (before after : Account) → Type 0
TakesMemory Copies d before after = AsksMemory before after window_bytes
TakesMemory (InVolume (Inode number) sector) d before after = after ≡ before
TakesMemory (InVolume Fields sector) d before after = after ≡ before
TakesMemory (InVolume Lost sector) d before after = Takes d sector before after
TakesMemory (InVolume (Owner fragment) sector) d before after = Takes d sector before after

-- how many requests are made to the memory for a target, and by a command: for the workspace of a check, or a window
abbrev pub target_requests : Target → ℕ
target_requests (Inode number) = 0
target_requests Fields = 0
target_requests Lost = workspace_requests
target_requests (Owner fragment) = workspace_requests

abbrev pub command_requests : Command → ℕ
command_requests Copies = 1
command_requests (InVolume target sector) = target_requests target

-- the volume is accepted, and lies in the image: after its superblock it is read for a target as its layout says
pub record ReadsVolume (target : Target) (sector : Option ℕ) (d : Device) (before after : ℕ) : Type 0 where
  pub found : Superblock
  pub accepted : ForContents d.contents (λ b. outcome b sector ≡ Ok found)
  pub sound : IsAcceptedLayout found.layout
  pub inside : FitsIn found.layout d.size
  pub reads : after ≤ before + opening_reads sector + target_reads target found.layout

-- how often a command reads an image: in a volume the superblock, and what a target takes after it
abbrev pub ReadsForCommand : Command → Device → (before after : ℕ) → Type 0
ReadsForCommand Copies d before after = ReadsCopies d before after
ReadsForCommand (InVolume target sector) d before after =
    (after ≤ before + opening_reads sector) ⊎ ReadsVolume target sector d before after

-- a command was carried out; the line of a fault is still to come
pub record AnswersCommand (command : Command) (old new : Moment) (before after : Account)
    (result : Result Bool FindFault) : Type 0 where
  pub answer : AnswersWith (command_lines_are_defects command) (IsContents old.image.contents) (command_lines command) old
      new result
  pub grounds : GroundsOf result (ForContents old.image.contents (IsAcceptedIn command))
      (IsRefusedBy command old.image new.image)
      (IsReadFor command old new) (RefusedOneMore before after)
  pub memory : TakesMemory command old.image before after
  pub reads : ReadsForCommand command old.image old.reads new.reads

-- a command was carried out: an answer, with what was printed for it, what was taken of the memory, and how often
-- the image was read; and then, by the answer, the line of a fault and the status
pub record FindsCommand (command : Command) (old new : Moment) (before after : Account) (status : ℕ) : Type 0 where
  pub answer : Result Bool FindFault
  pub before_line : Sink
  pub answers : AnswersCommand command old (record new { out = before_line }) before after answer
  pub ends : EndsBy before_line new.out answer status

-- ---- of the parts of `find_in`: a target, once its superblock is accepted
-- a target was looked for in a volume with this accepted superblock: what was printed, where a read failed, and
-- how often the image was read
pub record FindsTarget (target : Target) (sector : Option ℕ) (s : Superblock) (old new : Moment)
    (result : Result Bool FindFault) : Type 0 where
  pub answer : AnswersWith (lines_are_defects target) (WithSuper old.image sector s) (λ b. target_lines target sector b s)
      old new result
  pub grounds : GroundsOf result ⊤ (λ fault. ⊥) (IsReadForTarget target sector s (WithSuper old.image sector s) old.reads
      old.out new) ⊤
  pub reads : new.reads ≤ old.reads + target_reads target s.layout

-- bytes of the memory were granted, or a request for them was refused, as the answer says
abbrev pub IsGranted : (bytes : ℕ) → (before after : Account) → Result Bool FindFault → Type 0
IsGranted bytes before after (Ok defect) = Granted before after bytes
IsGranted bytes before after (Err (Refused fault)) = Granted before after bytes
IsGranted bytes before after (Err (Failed fault)) = Granted before after bytes
IsGranted bytes before after (Err NoMemory) = GaveUp before after bytes

-- nothing of the memory was asked for
abbrev pub AsksNothing : (before after : Account) → Result Bool FindFault → Type 0
AsksNothing before after result = (after ≡ before) × (result ≡ Err NoMemory → ⊥)

-- what is taken of the memory for a target, in a volume of this layout: nothing, or what the workspace of a check
-- holds
abbrev pub TakesForTarget : Target → Layout → (before after : Account) → Result Bool FindFault → Type 0
TakesForTarget (Inode number) v before after result = AsksNothing before after result
TakesForTarget Fields v before after result = AsksNothing before after result
TakesForTarget Lost v before after result = IsGranted (held_of v) before after result
TakesForTarget (Owner fragment) v before after result = IsGranted (held_of v) before after result
