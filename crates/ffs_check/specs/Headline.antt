-- The headline: what a check of an image prints, and how it ends.
use Rattle.std.specs.Prelude.{◌≡◌, ◌⊎◌, ◌↔◌, ◌<◌, ℕ, false, List, ◌++◌, length, Option, IfSome, Ok}
use Rattle.ffs_image.specs.Device.{Device, Faulted, ForContents}
use Rattle.ffs_volume.specs.declared.{SuperFault.TheVariants.CannotRead, End.{End, TheVariants.{Consistent, Refused}}}
use Rattle.ffs_volume.specs.{declared.End.TheVariants.{ReadFault, NoMemory}, Disk.Outcome.{IsSuperSector, outcome}}
use Rattle.ffs_volume.specs.{Disk.Superblock.Superblock, Consistent.Volume.IsConsistent, Messages.Kinds.Message}
use Rattle.ffs_volume.specs.{Messages.Kinds.{cannot_read, cannot_alloc, has_defect}, Report.Opening.head_lines}
use Rattle.ffs_volume.specs.Report.{Headings.headings_before, Opening.opening_lines, Whole.{report_of, report_end, EndAgrees}}
use Rattle.ffs_check.specs.{Ends.{Cut, Ends}, Headings.TookSections, Moment.Moment}

-- status 0, and a report with no defect, are each a certificate that the volume is consistent
pub record Certifies (bytes : List ℕ) (s : Superblock) (text : List Message) (end : End) : Type 0 where
  pub end_says : (end ≡ Consistent) ↔ IsConsistent bytes s
  pub text_says : (has_defect text ≡ false) ↔ IsConsistent bytes s

-- the end of a whole report: it agrees with the text; on an accepted superblock it certifies
pub record IsEndOfReport (name : List ℕ) (asked_sector : Option ℕ) (image : Device) (text : List Message) (end : End) :
    Type 0 where
  pub agrees : EndAgrees name asked_sector text end
  pub value : ForContents image.contents (λ bytes. end ≡ report_end bytes asked_sector)
  pub certifies : ForContents image.contents (λ bytes. (s : Superblock) → outcome bytes asked_sector ≡ Ok s
      → Certifies bytes s text end)

-- a read of the superblock, or of its last copy, failed: what is said before the fault's line are
-- the image's name and the sector, if one is asked for
pub record IsCutAtSuper (name : List ℕ) (asked_sector : Option ℕ) (image image' : Device) (cut : Cut) : Type 0 where
  pub faulted : Faulted image image' image'.failed_sector
  pub place : ForContents image.contents (λ bytes. IsSuperSector bytes asked_sector image'.failed_sector)
  pub said_is : cut.said ≡ head_lines name asked_sector
  pub line_is : cut.line ≡ cannot_read image'.failed_sector
  pub end_is : cut.end ≡ Refused (CannotRead image'.failed_sector)

-- a later read failed: what is said before the fault's line is the opening, through the mount line,
-- and whole messages of the report. Messages are missing: no read fails after the report's last one
pub record IsCutLater (name : List ℕ) (asked_sector : Option ℕ) (image image' : Device) (text : List Message)
    (cut : Cut) : Type 0 where
  pub faulted : Faulted image image' image'.failed_sector
  pub found : Superblock
  pub accepted : ForContents image.contents (λ bytes. outcome bytes asked_sector ≡ Ok found)
  pub prefix : List Message
  pub rest : List Message
  pub said_is : cut.said ≡ opening_lines name asked_sector (Ok found) ++ prefix
  pub makes_text : cut.said ++ rest ≡ text
  pub more : ForContents image.contents (λ bytes. 0 < length rest)
  pub line_is : cut.line ≡ cannot_read image'.failed_sector
  pub end_is : cut.end ≡ ReadFault image'.failed_sector

-- the memory of the check is refused: what is said before that is the opening, through the mount line
pub record IsCutByMemory (name : List ℕ) (asked_sector : Option ℕ) (image image' : Device) (cut : Cut) : Type 0 where
  pub no_read_failed : image' ≡ image
  pub found : Superblock
  pub accepted : ForContents image.contents (λ bytes. outcome bytes asked_sector ≡ Ok found)
  pub said_is : cut.said ≡ opening_lines name asked_sector (Ok found)
  pub line_is : cut.line ≡ cannot_alloc
  pub end_is : cut.end ≡ NoMemory

-- a read failed or the memory was refused: what is said before the line that says so, that line,
-- and the end
abbrev pub IsCutOfReport : List ℕ → Option ℕ → (image image' : Device) → List Message → Cut → Type 0
IsCutOfReport name asked_sector image image' text cut =
    IsCutAtSuper name asked_sector image image' cut
    ⊎ (IsCutLater name asked_sector image image' text cut
    ⊎ IsCutByMemory name asked_sector image image' cut)

-- the headline: `text` is the whole report where the image gives its bytes. It was printed whole; or
-- cut short by a failed read or refused memory, whose line was printed last; or the output failed.
-- Of any image the headings that `headings_before` gives for this end were printed, in order, after the opening of an
-- accepted superblock
pub record Headline (name : List ℕ) (asked_sector : Option ℕ) (old new : Moment) (end : End) : Type 0 where
  pub text : List Message
  pub is_report : ForContents old.image.contents (λ bytes. text ≡ report_of bytes name asked_sector)
  pub ends : Ends old new text (IsEndOfReport name asked_sector old.image text)
      (IsCutOfReport name asked_sector old.image new.image text) end
  pub headings : IfSome (headings_before end) (λ headings. (found : Superblock)
      × TookSections (opening_lines name asked_sector (Ok found)) old.out new.out headings)
