-- What an image with a limit shows of the image below it, and what it gives back of that.
use Rattle.std.specs.{Borrow.GName, Prelude.{◌≡◌, ℕ, ◌+◌, ◌-◌, ◌^◌, ◌<◌, ◌≤◌, min, Bool, if◌then◌else◌, ◌∷◌, true, false}}
use Rattle.std.specs.{Prelude.{◌||◌, ◌==◌, Result, IsErr}, Bool.{OnTrue, OnFalse}}
use Rattle.ffs_image.specs.Device.{Device, Faulted}

-- the image below after reads of which at most one failed, at a sector
abbrev pub after_reads : Device → (failed : Bool) → (sector : ℕ) → Device
after_reads d failed sector =
    if failed then record d { failures = min (d.failures + 1) (2 ^ 64 - 1); failed_sector = sector } else d

-- an image with a limit over one that was lent under a name and had counted so many reads; none of
-- its own has failed
abbrev pub limited_device : Device → GName → (reads limit : ℕ) → Device
limited_device d name reads limit = record d {
  failures = 0;
  failed_sector = 0;
  lent = record {
    image = name;
    limit = limit;
    reads = reads;
    failures = d.failures;
    failed_sector = d.failed_sector;
  } ∷ d.lent;
}

-- so many reads were asked for: those that were passed on, and one more where the limit refused one
abbrev pub reads_asked : (limit left : ℕ) → (spent : Bool) → ℕ
reads_asked limit left spent = limit - left + (if spent then 1 else 0)

-- a read of an image with a limit. Once one failed or was refused (`over`), and where none is left,
-- it fails, and the image below stays as it was, and so does how many are left; else one less is
pub record PassesOrRefuses {I T E : Type 0} (over : Bool) (left left' : ℕ) (below below' : I) (result : Result T E) :
    Type 0 where
  pub refused : OnTrue (over || left == 0) (IsErr result × (left' ≡ left) × (below' ≡ below))
  pub passed : OnFalse (over || left == 0) (left' + 1 ≡ left)

-- a moment of an image that is lent to one with a limit: the image, the reference to it, how often it was
-- read by then, and how many reads are left of the limit
pub record LentAt : Type 0 where
  pub image : Device
  pub name : GName
  pub reads : ℕ
  pub left : ℕ

abbrev pub lent_at : Device → GName → (reads left : ℕ) → LentAt
lent_at d name reads left = record { image = d; name = name; reads = reads; left = left }

-- what the image above shows when the one below has just been lent
abbrev pub shown_above : LentAt → Device
shown_above lent = limited_device lent.image lent.name lent.reads lent.left

-- after calls that leave the image above as it was, or with one failed read, the image below is
-- given back: with no more reads than the limit less what is left of it, as it was lent, or with
-- that failed read, if it isn't one that the limit refused. None is refused but where more reads
-- were asked for than the limit
pub record GivesBack (old new : LentAt) (asked : ℕ) (spent : Bool) (above : Device) : Type 0 where
  pub same_image : new.name ≡ old.name
  pub most : new.reads + new.left ≤ old.reads + old.left
  pub left_of : old.left ≤ new.left + asked
  pub asked_more : spent ≡ true → old.left < asked
  pub untouched : above ≡ shown_above old → (spent ≡ false) × (new.image ≡ old.image)
  pub refused : spent ≡ true → new.image ≡ old.image
  pub faulted : (sector : ℕ) → Faulted (shown_above old) above sector → spent ≡ false
      → Faulted old.image new.image sector

-- so it is given back as whichever image the one above shows to have been lent
abbrev pub GivesBackLent : (new : LentAt) (asked : ℕ) (spent : Bool) (above : Device) → Type 0
GivesBackLent new asked spent above = (old : LentAt) → above.lent ≡ (shown_above old).lent
    → above.contents ≡ old.image.contents → above.size ≡ old.image.size → GivesBack old new asked spent above
