-- What `copies` prints: the sectors at which `-b` is accepted.
use Rattle.std.specs.Prelude.{ℕ, ◌*◌, ◌/◌, ◌==◌, ◌&&◌, Bool, List, [], ◌∷◌, ◌++◌, codes, decimal, if◌then◌else◌, Some, Result, Ok, Err}
use Rattle.std.specs.{Prelude.nat_lt, List.{concat, flat_map, range_with_len}}
use Rattle.ffs_volume.specs.declared.{constants.TheConstants.{DEV_BSIZE, SUPERBLOCK_SECTOR}, Layout.Layout, Order.Order}
use Rattle.ffs_volume.specs.declared.{Order.TheVariants.{Little, Big}, SuperFault.SuperFault}
use Rattle.ffs_volume.specs.{Disk.{Areas.cgsblock, Superblock.Superblock, Outcome.outcome}, Messages.Texts.number_text}

-- the words of the two orders of bytes
abbrev pub order_word : Order → List ℕ
order_word Little = codes "little"
order_word Big = codes "big"

-- the group in which a sector lies
abbrev pub group_of_sector : Layout → ℕ → ℕ
group_of_sector v sector = sector * DEV_BSIZE / v.fsize / v.fpg

-- the copy of the superblock in the sector's group begins at the sector
abbrev pub is_group_copy : Layout → ℕ → Bool
is_group_copy v sector =
    nat_lt (group_of_sector v sector) v.ncg && (cgsblock v (group_of_sector v sector) * v.fsize == sector * DEV_BSIZE)

-- which superblock of its volume a sector has: the primary one, that of a group, or another one
abbrev pub which_text : Layout → ℕ → List ℕ
which_text v sector =
    if sector == SUPERBLOCK_SECTOR then codes "primary\n"
    else (if is_group_copy v sector then number_text (codes "group ") (group_of_sector v sector) (codes "\n")
    else codes "other\n")

-- the line of a superblock: its sector, order of bytes, sizes of blocks and fragments in bytes, size in
-- fragments, and which superblock of its volume it is
abbrev pub copy_text : Layout → ℕ → List ℕ
copy_text v sector = concat (
    (decimal sector ++ codes " ") ∷ order_word v.order ∷ codes " " ∷ (decimal v.bsize ++ codes "/")
    ∷ (decimal v.fsize ++ codes " ") ∷ (decimal v.size ++ codes " ") ∷ []) ++ which_text v sector

-- the line of a sector, where a superblock is accepted there
abbrev pub copy_lines_of : (sector : ℕ) → Result Superblock SuperFault → List (List ℕ)
copy_lines_of sector (Ok s) = copy_text s.layout sector ∷ []
copy_lines_of sector (Err fault) = []

-- how many sectors `-b` takes
unfoldable pub sector_count : ℕ
sector_count = 4194303

-- the sectors that `-b` takes, from 1 on
abbrev pub asked_sectors : List ℕ
asked_sectors = range_with_len 1 sector_count

-- the lines of all these sectors, ascending
unfoldable pub copies_lines : (image : List ℕ) → List (List ℕ)
copies_lines image = flat_map (λ sector. copy_lines_of sector (outcome image (Some sector))) asked_sectors
