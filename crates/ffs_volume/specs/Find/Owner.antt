-- What `owner` prints of a fragment: what it is where it is reserved, else the inodes that keep an offer
-- of it, else whether the map of its group has it as free.
use Rattle.std.specs.Prelude.{ℕ, ◌+◌, ◌-◌, ◌*◌, ◌/◌, ◌==◌, ◌&&◌, Bool, List, [], ◌∷◌, ◌++◌, codes, decimal}
use Rattle.std.specs.{Prelude.{if◌then◌else◌, Option, Some, None, nat_le, nat_lt}, List.{concat, flat_map, list_any}}
use Rattle.std.specs.Int.{div_ceil}
use Rattle.ffs_volume.specs.declared.{constants.TheConstants.DINODE_SIZE, Layout.Layout, Step.{Step, TheVariants.Run}}
use Rattle.ffs_volume.specs.{declared.Step.TheVariants.{Tail, Gap}, Disk.Areas.{cgstart, cgsblock, is_reserved}}
use Rattle.ffs_volume.specs.Blocks.{Inodes.inode_of, Steps.steps_of, Owners.inode_numbers, Claims.Claims}
use Rattle.ffs_volume.specs.Blocks.{Claims.{at_next_inode, after_step}, KeptOffers.kept_in_step}
use Rattle.ffs_volume.specs.{Blocks.KeptSteps.claims_before, Groups.Records.group_block, Messages.Texts.number_text}
use Rattle.ffs_volume.specs.Find.Lost.{has_map, is_marked_free}

-- the group of a fragment
abbrev pub group_of_fragment : Layout → ℕ → ℕ
group_of_fragment v f = f / v.fpg

-- ---- a fragment that is reserved
-- how many inodes a fragment of the inode table has
abbrev pub inodes_in_fragment : Layout → ℕ
inodes_in_fragment v = v.fsize / DINODE_SIZE

-- the fragment k of the inode table of group c, with its inodes. What is set aside for the table may be
-- larger than the table
abbrev pub table_text : Layout → (c k : ℕ) → List ℕ
table_text v c k =
    if nat_lt (k * inodes_in_fragment v) v.ipg
    then concat (
    codes "inode table of group " ∷ (decimal c ++ codes ", inodes ")
    ∷ (decimal (c * v.ipg + k * inodes_in_fragment v) ++ codes " to ")
    ∷ (decimal (c * v.ipg + k * inodes_in_fragment v + inodes_in_fragment v - 1) ++ codes "\n") ∷ [])
    else number_text (codes "inode table of group ") c (codes "\n")

-- a fragment of the metadata of group c: it is set aside for the copy of the superblock, for the group
-- block or for the inode table
unfoldable pub part_text : Layout → (c f : ℕ) → List ℕ
part_text v c f =
    if nat_lt f (cgstart v c + v.cblkno) then number_text (codes "superblock of group ") c (codes "\n")
    else (if nat_lt f (cgstart v c + v.iblkno) then number_text (codes "group block of group ") c (codes "\n")
    else table_text v c (f - (cgstart v c + v.iblkno)))

-- a fragment that is reserved: it is in the boot area, in the summary area, or metadata of its group
unfoldable pub reserved_text : Layout → ℕ → List ℕ
reserved_text v f =
    if nat_lt f (cgsblock v 0) then codes "boot area\n"
    else (if nat_le v.csaddr f && nat_lt f (v.csaddr + div_ceil v.cssize v.fsize) then codes "summary\n"
    else part_text v (group_of_fragment v f) f)

-- ---- a fragment that inodes keep an offer of
-- the inode x keeps the fragment by a Run: the logical block of that, or which indirect block it is of
-- those of the inode, in the order of the steps. Before it there are so many
abbrev pub keeper_text : (x earlier : ℕ) → Option ℕ → List ℕ
keeper_text x earlier (Some block) =
    concat (codes "inode " ∷ (decimal x ++ codes " block ") ∷ (decimal block ++ codes "\n") ∷ [])
keeper_text x earlier None =
    concat (codes "inode " ∷ (decimal x ++ codes " indirect block ") ∷ (decimal (earlier + 1) ++ codes "\n") ∷ [])

-- 1 for the Run of an indirect block
abbrev pub indirect_in : Step → ℕ
indirect_in (Run start len (Some block)) = 0
indirect_in (Run start len None) = 1
indirect_in Tail = 0
indirect_in Gap = 0

-- one of the kept offers of a step of the inode x is of the fragment f
abbrev pub keeps_in_step : Layout → (f x : ℕ) → Claims → Step → Bool
keeps_in_step v f x s step = list_any (λ o. o.fragment == f) (kept_in_step v x s step)

-- the lines of a step and of steps, from a state on
abbrev pub keeper_lines_of_step : Layout → (f x earlier : ℕ) → Claims → Step → List (List ℕ)
keeper_lines_of_step v f x earlier s (Run start len block) =
    if keeps_in_step v f x s (Run start len block) then keeper_text x earlier block ∷ [] else []
keeper_lines_of_step v f x earlier s Tail = []
keeper_lines_of_step v f x earlier s Gap = []

abbrev pub keeper_lines_of_steps : Layout → (f x earlier : ℕ) → Claims → List Step → List (List ℕ)
keeper_lines_of_steps v f x earlier s [] = []
keeper_lines_of_steps v f x earlier s (step ∷ steps) =
    keeper_lines_of_step v f x earlier s step
    ++ keeper_lines_of_steps v f x (earlier + indirect_in step) (after_step v s step) steps

-- the lines of the inode x
unfoldable pub keeper_lines_of_inode : (v : Layout) (image : List ℕ) (f x : ℕ) → List (List ℕ)
keeper_lines_of_inode v image f x =
    keeper_lines_of_steps v f x 0 (at_next_inode (claims_before v image x)) (steps_of v (inode_of v image x) image)

-- the lines of all inodes, ascending
unfoldable pub keeper_lines : (v : Layout) (image : List ℕ) (f : ℕ) → List (List ℕ)
keeper_lines v image f = flat_map (keeper_lines_of_inode v image f) (inode_numbers v)

-- ---- a fragment that no inode keeps an offer of
-- the map of the group of f marks f as free, or f is lost; or that group has no map
unfoldable pub map_text : (v : Layout) (block : List ℕ) (f : ℕ) → List ℕ
map_text v block f =
    if has_map v block
    then (if is_marked_free v block (group_of_fragment v f) f then codes "free\n" else codes "lost\n")
    else number_text (codes "no map in group ") (group_of_fragment v f) (codes "\n")

-- ---- all
-- the first lines, and where there are none the second
abbrev pub or_lines : List (List ℕ) → List (List ℕ) → List (List ℕ)
or_lines [] others = others
or_lines (line ∷ lines) others = line ∷ lines

-- the lines of the fragment f; none where the volume has no such fragment
unfoldable pub lines_of_fragment : (v : Layout) (image : List ℕ) (f : ℕ) → List (List ℕ)
lines_of_fragment v image f =
    if nat_lt f v.size
    then (if is_reserved v f then reserved_text v f ∷ []
    else or_lines (keeper_lines v image f) (map_text v (group_block v image (group_of_fragment v f)) f ∷ []))
    else []
