-- The value of a superblock in memory.
use Rattle.std.specs.Prelude.{◌≡◌, ℕ, ◌+◌, ◌*◌, ◌<◌, ◌⊎◌, Bool, true, false, List, Option, Some, Result, Ok, Err}
use Rattle.ffs_volume.specs.declared.{constants.TheConstants.{DEV_BSIZE, SUPERBLOCK_BYTES}, SuperFault.SuperFault}
use Rattle.ffs_volume.specs.declared.SuperFault.TheVariants.{CannotRead, Disagree}
use Rattle.ffs_volume.specs.Disk.{Outcome.{super_sector, outcome, IsSuperSector}, Superblock.Superblock}
use Rattle.ffs_image.specs.Device.{Device, Faulted}
use Rattle.ffs_layout.specs.{Reads.ReadFailed, declared.superblock.Super.Super}

-- A superblock in memory as a superblock of the definitions.
abbrev pub superblock_in : Super → Superblock
superblock_in s = record {
  layout = s.geometry.layout;
  optim = s.optim;
  minfree = s.minfree;
  cstotal = s.cstotal;
  mount = s.mount;
}

-- An answer with a superblock in memory as one with a superblock of the definitions.
abbrev pub found_of : Result Super SuperFault → Result Superblock SuperFault
found_of (Ok super) = Ok (superblock_in super)
found_of (Err fault) = Err fault

-- This is found by reading the superblock: the fault of a read that failed, or, where the image
-- gives its bytes, the outcome of these.
abbrev pub ReadsSuper : (old new : Device) → Option ℕ → Result Superblock SuperFault → Type 0
ReadsSuper old new sector found =
    (ReadFailed found old new × ((b : List ℕ) → old.contents ≡ Some b → IsSuperSector b sector new.failed_sector))
    ⊎ ((new ≡ old) × ((b : List ℕ) → old.contents ≡ Some b → found ≡ outcome b sector))

-- The last copy of the superblock may be read before this answer: the layout has no fault.
abbrev pub may_read_copy : Result Superblock SuperFault → Bool
may_read_copy (Ok super) = true
may_read_copy (Err (CannotRead at)) = true
may_read_copy (Err Disagree) = true
may_read_copy (Err fault) = false

-- The superblock can't be read, and the fault names the sector `at`: a read failed there, or the
-- superblock asked for begins at that sector, and would end past the image's end.
abbrev pub IsUnreadable : (old new : Device) → Option ℕ → ℕ → Type 0
IsUnreadable old new sector at = Faulted old new at ⊎ ((new ≡ old) × (at ≡ super_sector sector)
    × (old.size < at * DEV_BSIZE + SUPERBLOCK_BYTES))
