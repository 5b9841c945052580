-- What is read and compared of a superblock and its copies.
use Rattle.std.specs.Prelude.{◌≡◌, ℕ, ◌+◌, ◌<◌, ◌≤◌, ◌/◌, ◌⊎◌, true, false, List, Option, None, Result, Ok, Err}
use Rattle.ffs_image.specs.{Device.{Device, Faulted, ForContents}, Reads.ReadsAtMostOnce}
use Rattle.ffs_volume.specs.declared.{Order.Order, SuperFault.{SuperFault, TheVariants.{CannotRead, Disagree}}}
use Rattle.ffs_volume.specs.Disk.{Numbers.piece, Outcome.{copy_agrees, copy_place}, Superblock.layout_of}
use Rattle.ffs_volume.specs.declared.constants.TheConstants.{SUPERBLOCK_BYTES, DEV_BSIZE}

-- the bytes of a superblock were read at a place, which lies in the image
pub record IsCopy (old new : Device) (at : ℕ) (copy : List ℕ) : Type 0 where
  pub same : new ≡ old
  pub inside : at + SUPERBLOCK_BYTES ≤ old.size
  pub bytes : ForContents old.contents (λ b. copy ≡ piece at SUPERBLOCK_BYTES b)

-- the superblock at a place can't be read: the read fails, or it lies past the end
pub record IsUnreadCopy (old new : Device) (at : ℕ) (answer : SuperFault) : Type 0 where
  pub fault : answer ≡ CannotRead (at / DEV_BSIZE)
  pub cause : Faulted old new (at / DEV_BSIZE) ⊎ ((new ≡ old) × (old.size < at + SUPERBLOCK_BYTES))

-- a superblock is read at a place: its bytes are given, or it can't be read
abbrev pub ReadsSuperblockBytes : (old new : Device) → (at : ℕ) → (copy : List ℕ) → Result (Unit {0}) SuperFault →
    Type 0
ReadsSuperblockBytes old new at copy (Ok x) = IsCopy old new at copy
ReadsSuperblockBytes old new at copy (Err fault) = IsUnreadCopy old new at fault

-- an image was read for the bytes of a superblock at a place, and then for those of a copy of it, each
-- once at most, and for nothing else
pub record ReadsSuperblocks {I : Type 0} (was_read : I → ℕ → ℕ → I → Type 0) (at : ℕ) (old new : I) : Type 0 where
  pub copy : ℕ
  pub between : I
  pub first : ReadsAtMostOnce was_read at SUPERBLOCK_BYTES old between
  pub second : ReadsAtMostOnce was_read copy SUPERBLOCK_BYTES between new

-- the last copy agrees, where it is compared
pub record CopyAgrees (old new : Device) (sector : Option ℕ) (order : Order) (bytes : List ℕ) : Type 0 where
  pub same : new ≡ old
  pub agrees : ForContents old.contents (λ b. copy_agrees b sector order bytes ≡ true)

-- the last copy is compared, and the read of it fails
pub record CopyUnread (old new : Device) (sector : Option ℕ) (order : Order) (bytes : List ℕ)
    (answer : SuperFault) : Type 0 where
  pub compared : sector ≡ None
  pub fault : answer ≡ CannotRead (copy_place (layout_of order bytes) / DEV_BSIZE)
  pub failed : Faulted old new (copy_place (layout_of order bytes) / DEV_BSIZE)

-- the last copy differs
pub record CopyDiffers (old new : Device) (sector : Option ℕ) (order : Order) (bytes : List ℕ)
    (answer : SuperFault) : Type 0 where
  pub same : new ≡ old
  pub fault : answer ≡ Disagree
  pub differs : ForContents old.contents (λ b. copy_agrees b sector order bytes ≡ false)

-- comparing the last copy gives this fault: it can't be read, or it differs
abbrev pub IsCopyFault : (old new : Device) → Option ℕ → Order → List ℕ → SuperFault → Type 0
IsCopyFault old new sector order bytes answer =
    CopyUnread old new sector order bytes answer ⊎ CopyDiffers old new sector order bytes answer

-- the last copy is compared, where no sector was asked for: it agrees, or this gives a fault
abbrev pub ComparesCopy : (old new : Device) → Option ℕ → Order → List ℕ → Result (Unit {0}) SuperFault → Type 0
ComparesCopy old new sector order bytes (Ok x) = CopyAgrees old new sector order bytes
ComparesCopy old new sector order bytes (Err fault) = IsCopyFault old new sector order bytes fault
