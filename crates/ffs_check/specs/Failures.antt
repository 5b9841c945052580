-- What the end of a check says of how many reads failed in it, none or one, of how many writes, none
-- or one, and of a superblock that can't be read.
use Rattle.std.specs.Prelude.{◌≡◌, ◌⊎◌, ℕ, Option}
use Rattle.ffs_image.specs.Device.{Rose}
use Rattle.ffs_layout.specs.Super.{IsUnreadable}
use Rattle.ffs_volume.specs.declared.{SuperFault.TheVariants.CannotRead, End.{End, TheVariants.{Consistent, Defects}}}
use Rattle.ffs_volume.specs.declared.End.TheVariants.{Refused, RootStop, ReadFault, WriteFault, NoMemory}
use Rattle.ffs_check.specs.Moment.{Moment}

-- what an end says of the counts of failed reads before and after
abbrev pub ReadsFailed : End → (old new : ℕ) → Type 0
ReadsFailed Consistent old new = new ≡ old
ReadsFailed Defects old new = new ≡ old
ReadsFailed RootStop old new = new ≡ old
ReadsFailed NoMemory old new = new ≡ old
ReadsFailed (Refused (CannotRead sector)) old new = (new ≡ old) ⊎ Rose old new
ReadsFailed (Refused fault) old new = new ≡ old
ReadsFailed (ReadFault sector) old new = Rose old new
ReadsFailed WriteFault old new = (new ≡ old) ⊎ Rose old new

-- what an end says of the counts of failed writes before and after
abbrev pub WritesFailed : End → (old new : ℕ) → Type 0
WritesFailed Consistent old new = new ≡ old
WritesFailed Defects old new = new ≡ old
WritesFailed RootStop old new = new ≡ old
WritesFailed NoMemory old new = new ≡ old
WritesFailed (Refused fault) old new = new ≡ old
WritesFailed (ReadFault sector) old new = new ≡ old
WritesFailed WriteFault old new = Rose old new

-- what an end says of the failed reads of an image and the failed writes of an output. A superblock
-- that can't be read is a failed read, or the image ends before it does
pub record HaveFailed (asked_sector : Option ℕ) (old new : Moment) (end : End) : Type 0 where
  pub reads : ReadsFailed end old.image.failures new.image.failures
  pub writes : WritesFailed end old.out.failures new.out.failures
  pub unreadable : (sector : ℕ) → end ≡ Refused (CannotRead sector)
      → IsUnreadable old.image new.image asked_sector sector
