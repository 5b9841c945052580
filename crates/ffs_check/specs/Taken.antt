-- What a check takes of its memory.
use Rattle.std.specs.Prelude.{◌≡◌, ◌≤◌, ◌⊎◌, ℕ, Option, Ok}
use Rattle.ffs_image.specs.Device.{Device, ForContents}
use Rattle.ffs_memory.specs.{Account.{Account, Granted, GaveUp, RefusedOneMore}}
use Rattle.ffs_volume.specs.{declared.End.{End, TheVariants.NoMemory}, Report.Memory.held_limit, Disk.Outcome.outcome}
use Rattle.ffs_volume.specs.{Disk.Superblock.Superblock, Laws.Geometry.IsAcceptedLayout, Report.Memory.held_of}
use Rattle.ffs_volume.specs.Disk.Areas.{FitsIn}

-- these bytes were granted, or a request was refused before all of them were
abbrev pub AsksMemory : (old new : Account) → ℕ → Type 0
AsksMemory old new bytes = Granted old new bytes ⊎ GaveUp old new bytes

-- these bytes are asked for, and the end is `NoMemory` only where a request was refused
pub record TakesBytes (bytes : ℕ) (old new : Account) (end : End) : Type 0 where
  pub asked : AsksMemory old new bytes
  pub refused : end ≡ NoMemory → RefusedOneMore old new

-- what the workspace of an accepted volume, which lies in the image, holds was granted and no byte
-- more, which is within the limit of that volume, or a request was refused
pub record TakesWorkspace (image : Device) (asked_sector : Option ℕ) (old new : Account) : Type 0 where
  pub found : Superblock
  pub accepted : ForContents image.contents (λ bytes. outcome bytes asked_sector ≡ Ok found)
  pub sound : IsAcceptedLayout found.layout
  pub inside : FitsIn found.layout image.size
  pub asked : AsksMemory old new (held_of found.layout)
  pub within : held_of found.layout ≤ held_limit found.layout

-- nothing was taken, or the workspace of an accepted volume
abbrev pub Takes : Device → Option ℕ → (old new : Account) → Type 0
Takes image asked_sector old new = (new ≡ old) ⊎ TakesWorkspace image asked_sector old new
