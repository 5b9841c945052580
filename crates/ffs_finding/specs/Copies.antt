-- How magic numbers are found, window by window.
use Rattle.std.specs.Prelude.{◌≡◌, ◌⊎◌, ℕ, ◌+◌, ◌-◌, ◌*◌, ◌/◌, ◌<◌, ◌≤◌, min, Bool, List, Some, is_some, Result, IfOk, OnOk}
use Rattle.std.specs.{Prelude.{vec_len, count_by, if◌then◌else◌}, Int.div_ceil, List.{flat_map, range_with_len}}
use Rattle.ffs_image.specs.{Device.{Device, ForContents}, Reads.ReadAfter, declared.image.ImageFault.ImageFault}
use Rattle.ffs_volume.specs.{Disk.{Superblock.order_of, Outcome.{outcome, super_bytes}}, Find.Copies.asked_sectors}
use Rattle.ffs_volume.specs.{Find.Copies.{copies_lines, copy_lines_of, sector_count}, declared.constants.TheConstants.DEV_BSIZE}
use Rattle.ffs_volume.specs.declared.constants.TheConstants.{SUPERBLOCK_BYTES}
use Rattle.ffs_report.specs.{Fails.FailsIn, Sink.Sink, declared.fault.RunFault.RunFault}
use Rattle.ffs_image.specs.Known.{ForBytes, IsContents}
use Rattle.ffs_check.specs.{Moment.Moment, declared.words.TheConstants.SECTOR_END}
use Rattle.ffs_finding.specs.{Outcome.{Finds, PrintedOf}, declared.copies.TheConstants.SECTORS_BEFORE_MAGIC}
use Rattle.ffs_walk.specs.{Windows.{FailsAt, WindowHolds}, declared.window.Window.Window}

-- how many bytes are read at a time
abbrev pub window_bytes : ℕ
window_bytes = 65536

-- a superblock with a magic number, in one of the two orders of bytes, begins at a sector
abbrev pub has_magic : (image : List ℕ) (sector : ℕ) → Bool
has_magic image sector = is_some (order_of (super_bytes image (Some sector)))

-- where the window begins in which the magic number of a superblock at a sector lies, in bytes
abbrev pub window_place : ℕ → ℕ
window_place sector = (sector + SECTORS_BEFORE_MAGIC) * DEV_BSIZE / window_bytes * window_bytes

-- how many bytes of an image are in the window from a place on
abbrev pub window_length : (size place : ℕ) → ℕ
window_length size place = min window_bytes (size - place)

-- a superblock at a sector lies in the image, `-b` takes the sector, and the window has its room and
-- holds what the image gives
pub record CanFindAt (d : Device) (sector : ℕ) (w : Window) : Type 0 where
  pub sector_fits : sector < SECTOR_END
  pub inside : sector * DEV_BSIZE + SUPERBLOCK_BYTES ≤ d.size
  pub room : vec_len w.buffer ≡ window_bytes
  pub holds : WindowHolds d.contents w

-- the window is the one of this sector
pub record IsWindowOf (d : Device) (sector : ℕ) (w : Window) : Type 0 where
  pub place : w.place ≡ window_place sector
  pub length : w.length ≡ window_length d.size (window_place sector)

-- the window is that of a sector now, unless a read failed; it has its room and holds what the image gives
pub record WindowAfter {T E : Type 0} (d d' : Device) (sector : ℕ) (after : Window) (result : Result T E) : Type 0 where
  pub at : OnOk result (IsWindowOf d sector after)
  pub room : vec_len after.buffer ≡ window_bytes
  pub holds : WindowHolds d'.contents after

-- the answer is whether a magic number is there. A read that failed is of the window
pub record FindsMagic (d d' : Device) (sector : ℕ) (after : Window) (result : Result Bool ImageFault) : Type 0 where
  pub answer : IfOk result (λ found. ForContents d.contents (λ b. found ≡ has_magic b sector))
  pub read : ReadAfter d d' result
  pub failed : FailsAt (window_place sector) result
  pub window : WindowAfter d d' sector after result

-- one read at most, and none where the window was that of the sector before
pub record ReadsWindow (d : Device) (sector : ℕ) (before : Window) (reads reads' : ℕ) : Type 0 where
  pub counted : reads' ≤ reads + 1
  pub again : IsWindowOf d sector before → reads' ≤ reads

-- what a sector adds to the reads: that of the superblock, where a magic number is there
abbrev pub super_reads : (image : List ℕ) (sector : ℕ) → ℕ
super_reads image sector = if has_magic image sector then 1 else 0

-- a read for the superblock at a sector is of that, or of the window in which its magic number would lie
abbrev pub IsReadForCopy : (sector at : ℕ) → Type 0
IsReadForCopy sector at = (at ≡ sector) ⊎ (at ≡ window_place sector / DEV_BSIZE)

-- the line of a sector was printed, where a superblock is accepted there, or what a fault leaves of it
pub record FindsAt (sector : ℕ) (before after : Window) (old new : Moment) (result : Result (Unit {0}) RunFault) :
    Type 0 where
  pub found : Finds (IsContents old.image.contents) (λ b. copy_lines_of sector (outcome b (Some sector))) old new result
  pub window : WindowAfter old.image new.image sector after result
  pub counted : ForContents old.image.contents (λ b. new.reads ≤ old.reads + 1 + super_reads b sector)
  pub again : IsWindowOf old.image sector before
      → ForContents old.image.contents (λ b. new.reads ≤ old.reads + super_reads b sector)
  pub any : new.reads ≤ old.reads + 2
  pub failed : FailsIn (λ at. (new.out ≡ old.out) × ForContents old.image.contents (λ b. IsReadForCopy sector at)) result

-- the lines of the sectors from one on
unfoldable pub copies_from : (image : List ℕ) (sector : ℕ) → List (List ℕ)
copies_from image sector = flat_map (λ s. copy_lines_of s (outcome image (Some s)))
    (range_with_len sector (sector_count + 1 - sector))

-- a read failed in this sector: it is one for the superblock at some sector, and just the lines of lesser sectors
-- were printed
pub record FailsBeforeCopy (knows : List ℕ → Type 0) (old new : Sink) (at : ℕ) : Type 0 where
  pub sector : ℕ
  pub failed : ForBytes knows (λ b. IsReadForCopy sector at)
  pub printed : PrintedOf knows (λ b. copies_from b sector) copies_lines old new

-- the image was read once for each window of 65,536 bytes at most, and once for each magic number; any
-- image, also one that gives other bytes each time, at most twice for each of its sectors that `-b` takes
pub record ReadsCopies (d : Device) (reads reads' : ℕ) : Type 0 where
  pub known : ForContents d.contents
      (λ b. reads' ≤ reads + div_ceil d.size window_bytes + count_by (has_magic b) asked_sectors)
  pub any : reads' ≤ reads + 2 * min sector_count (d.size / DEV_BSIZE)

-- superblocks at the sectors from 1 on and below this one, and at no others that `-b` takes, lie in an
-- image of this size
pub record IsSectorsEnd (size end : ℕ) : Type 0 where
  pub some : 1 ≤ end
  pub below : end ≤ SECTOR_END
  pub inside : (sector : ℕ) → 1 ≤ sector → sector < end → sector * DEV_BSIZE + SUPERBLOCK_BYTES ≤ size
  pub outside : (sector : ℕ) → end ≤ sector → sector < SECTOR_END → size < sector * DEV_BSIZE + SUPERBLOCK_BYTES
