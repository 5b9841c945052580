-- What the opening of a check prints, and its answer.
use Rattle.std.specs.Prelude.{◌≡◌, ◌⊎◌, ◌≤◌, ◌<◌, ◌+◌, ◌*◌, ◌||◌, ◌∷◌, [], ℕ, Bool, false, List, Option, Some, None, Result}
use Rattle.std.specs.Prelude.{Ok, Err, MatchResult}
use Rattle.ffs_image.specs.Device.{ForContents}
use Rattle.ffs_volume.specs.declared.SuperFault.{SuperFault, TheVariants.CannotRead}
use Rattle.ffs_volume.specs.{declared.End.{End, TheVariants.{Refused, WriteFault}}, Report.Reads.opening_reads}
use Rattle.ffs_volume.specs.{Disk.{Superblock.Superblock, Outcome.{outcome, super_sector}}, Messages.{Kinds.{Message, has_defect}}}
use Rattle.ffs_volume.specs.{Messages.Texts.texts_of, Report.Opening.{fault_line, head_lines, opening_lines}}
use Rattle.ffs_report.specs.{Progress.Progress, Sink.{BrokeOff, Took}}
use Rattle.ffs_layout.specs.{declared.superblock.Super.Super, Super.{IsUnreadable, ReadsSuper, may_read_copy, superblock_in}}
use Rattle.ffs_check.specs.{Ends.BrokeOffAfter, Moment.Moment}
use Rattle.ffs_volume.specs.{Disk.Areas.FitsIn, declared.constants.TheConstants.{DEV_BSIZE, SUPERBLOCK_BYTES}}

-- the superblock isn't accepted, and its opening went out, with the fault
pub record OpeningRefused (name : List ℕ) (asked_sector : Option ℕ) (old new : Moment)
    (found : Result Superblock SuperFault) (end : End) : Type 0 where
  pub fault : SuperFault
  pub found_is : found ≡ Err fault
  pub went_out : Took old.out new.out (texts_of (opening_lines name asked_sector (Err fault)))
  pub end_is : end ≡ Refused fault

-- no read had failed, and the output failed within the opening
pub record OpeningBrokeOff (name : List ℕ) (asked_sector : Option ℕ) (old new : Moment)
    (found : Result Superblock SuperFault) (end : End) : Type 0 where
  pub no_read_failed : new.image ≡ old.image
  pub found_is : ForContents old.image.contents (λ bytes. found ≡ outcome bytes asked_sector)
  pub broke_off : BrokeOff old.out new.out (texts_of (opening_lines name asked_sector found))
  pub end_is : end ≡ WriteFault

-- the output failed within the line of the superblock's fault
pub record OpeningBrokeInLine (name : List ℕ) (asked_sector : Option ℕ) (old new : Moment)
    (found : Result Superblock SuperFault) (end : End) : Type 0 where
  pub fault : SuperFault
  pub found_is : found ≡ Err fault
  pub in_line : BrokeOffAfter old.out new.out (head_lines name asked_sector) (fault_line fault ∷ [])
  pub end_is : end ≡ WriteFault

-- how an opening ended: with an accepted superblock, or in one of these ways
abbrev pub OpeningEnds : List ℕ → Option ℕ → (old new : Moment) → Result Superblock SuperFault → Result Super End →
    Type 0
OpeningEnds name asked_sector old new found (Ok super) =
    Took old.out new.out (texts_of (opening_lines name asked_sector found)) × (found ≡ Ok (superblock_in super))
OpeningEnds name asked_sector old new found (Err end) =
    OpeningRefused name asked_sector old new found end
    ⊎ (OpeningBrokeOff name asked_sector old new found end
    ⊎ OpeningBrokeInLine name asked_sector old new found end)

-- a superblock or a fault was found, as the image has it; its opening went out, or the output failed in it. One read is
-- made at most where it is refused for its own fields
pub record OpeningOf (name : List ℕ) (asked_sector : Option ℕ) (old new : Moment) (result : Result Super End) :
    Type 0 where
  pub found : Result Superblock SuperFault
  pub super_is_read : ReadsSuper old.image new.image asked_sector found
  pub once : may_read_copy found ≡ false → new.reads ≤ old.reads + 1
  pub ends : OpeningEnds name asked_sector old new found result

-- an accepted volume lies within the image, and a superblock that can't be read is a failed read, or
-- the image ends before it does. No more is read than the superblock, and its last copy; nothing of an image that ends
-- before the superblock does
pub record AnswersOpening (asked_sector : Option ℕ) (old new : Moment) (result : Result Super End) : Type 0 where
  pub inside_or_unreadable : MatchResult result
      (λ super. FitsIn super.geometry.layout old.image.size)
      (λ end. (sector : ℕ) → end ≡ Refused (CannotRead sector)
      → IsUnreadable old.image new.image asked_sector sector)
  pub reads : new.reads ≤ old.reads + opening_reads asked_sector
  pub short : old.image.size < super_sector asked_sector * DEV_BSIZE + SUPERBLOCK_BYTES → new.reads ≤ old.reads

-- what the opening answers, and what went out of it
pub record Opens (name : List ℕ) (asked_sector : Option ℕ) (old new : Moment) (result : Result Super End) : Type 0 where
  pub answers : AnswersOpening asked_sector old new result
  pub opened : OpeningOf name asked_sector old new result

-- a report has not failed, and a defect was reported where these lines have one: by this report, or by
-- another one that said some of them (`had_defect`)
pub record IsWorkingAfter (lines : List Message) (had_defect : Bool) (report : Progress) : Type 0 where
  pub working : report.failed ≡ false
  pub defect : (had_defect || report.defect) ≡ has_defect lines
