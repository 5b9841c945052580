-- The messages of the opening: which volume, its superblock or the first fault of it.
use Rattle.std.specs.Prelude.{ℕ, ℤ, pos, negsuc, List, [], ◌∷◌, ◌++◌, Bool, false, nat_le, nat_lt, take_while, Option}
use Rattle.std.specs.Prelude.{Some, None, Result, Ok, Err}
use Rattle.ffs_volume.specs.declared.SuperFault.{SuperFault, TheVariants.{CannotRead, Magic, InodeFormat, Ncg, Cpg}}
use Rattle.ffs_volume.specs.declared.SuperFault.TheVariants.{Ncyl, TooLarge, Shape, Short, Disagree}
use Rattle.ffs_volume.specs.Messages.Kinds.{Message, location, image_name, mounted, bad_super, cannot_read, optimization}
use Rattle.ffs_volume.specs.{Messages.Kinds.{minfree, unless}, Disk.{Superblock.Superblock, Outcome.outcome}}

-- the bytes up to the first NUL, or all of them: the mount point
abbrev pub before_nul : List ℕ → List ℕ
before_nul bytes = take_while (λ byte. nat_lt 0 byte) bytes

-- a number from 0 to `most`
abbrev pub is_up_to : ℕ → ℤ → Bool
is_up_to most (pos n) = nat_le n most
is_up_to most (negsuc n) = false

-- optim is 0 (time) or 1 (space)
abbrev pub has_valid_optim : Superblock → Bool
has_valid_optim s = is_up_to 1 s.optim

-- minfree is a percentage of 0 to 99
abbrev pub has_valid_minfree : Superblock → Bool
has_valid_minfree s = is_up_to 99 s.minfree

-- the defects of the settings
unfoldable pub setting_lines : Superblock → List Message
setting_lines s =
    unless (has_valid_optim s) optimization ++ unless (has_valid_minfree s) (minfree s.minfree)

-- what is reported of an accepted superblock
abbrev pub super_lines : Superblock → List Message
super_lines s = setting_lines s ++ (mounted (before_nul s.mount) ∷ [])

-- how a fault of the superblock is reported: a failed read by its own message, any other by its line
abbrev pub fault_line : SuperFault → Message
fault_line (CannotRead sector) = cannot_read sector
fault_line Magic = bad_super Magic
fault_line InodeFormat = bad_super InodeFormat
fault_line Ncg = bad_super Ncg
fault_line Cpg = bad_super Cpg
fault_line Ncyl = bad_super Ncyl
fault_line TooLarge = bad_super TooLarge
fault_line Shape = bad_super Shape
fault_line Short = bad_super Short
fault_line Disagree = bad_super Disagree

-- where a sector is asked for, it is reported first
abbrev pub location_lines : Option ℕ → List Message
location_lines None = []
location_lines (Some sector) = location sector ∷ []

-- the messages before the superblock is read: the sector, if one is asked for, and the image's name
abbrev pub head_lines : (name : List ℕ) (sector : Option ℕ) → List Message
head_lines name sector = location_lines sector ++ image_name name ∷ []

-- what is reported of what was found: a superblock or its fault
abbrev pub found_lines : Result Superblock SuperFault → List Message
found_lines (Ok s) = super_lines s
found_lines (Err fault) = fault_line fault ∷ []

-- the opening, where a superblock or its fault was found
abbrev pub opening_lines : (name : List ℕ) (sector : Option ℕ) (found : Result Superblock SuperFault) → List Message
opening_lines name sector found = head_lines name sector ++ found_lines found

-- the opening of an image: the first messages of its report
abbrev pub opening_of : (image name : List ℕ) (sector : Option ℕ) → List Message
opening_of image name sector = opening_lines name sector (outcome image sector)
