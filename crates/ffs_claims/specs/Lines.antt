-- The lines of the block check, as messages of a report.
use Rattle.std.specs.{List.range_with_len, Prelude.{ℕ, ◌+◌, ◌-◌, Bool, ◌&&◌, nat_lt, if◌then◌else◌, List, [], ◌∷◌, map}}
use Rattle.ffs_volume.specs.Blocks.{Claims.{Claims, is_set}, Inodes.{class_of, inodes_of}, Owners.{Owner, owner_of}}
use Rattle.ffs_volume.specs.{Blocks.Steps.steps_of, Disk.Areas.is_fragment_in_range, Messages.Kinds.Message}
use Rattle.ffs_volume.specs.{Messages.Kinds.of_blocks, declared.BlockMessage.{BlockMessage, TheVariants.{Bad, Dup}}}
use Rattle.ffs_volume.specs.declared.{BlockMessage.TheVariants.{ManyBad, ManyDup}, Class.Class, Inode.Inode}
use Rattle.ffs_volume.specs.declared.{Layout.Layout, constants.TheConstants.MAXDUP}

-- the messages of the block check's lines
abbrev pub of_lines : List BlockMessage → List Message
of_lines lines = map of_blocks lines

-- an offer of f is dup and kept, and so has a DUP line
abbrev pub has_dup_line : Layout → Claims → ℕ → Bool
has_dup_line v s f = nat_lt s.dup_offers (MAXDUP + 1) && (is_fragment_in_range v f && is_set s.used f)

-- what is reported of a dup offer and of a bad Run, the eleventh one or not
abbrev pub dup_lines : (f number : ℕ) → Bool → List BlockMessage
dup_lines f number is_eleventh = Dup f number ∷ (if is_eleventh then ManyDup number ∷ [] else [])

abbrev pub bad_lines : (start number : ℕ) → Bool → List BlockMessage
bad_lines start number is_eleventh = Bad start number ∷ (if is_eleventh then ManyBad number ∷ [] else [])

-- the owner with this number whose inode was read: `owner_of` makes it by the number alone
abbrev pub owner_with : Layout → List ℕ → ℕ → Inode → Owner
owner_with v image number i =
    record { number = number; class = class_of v i; steps = steps_of v i image; blocks = i.blocks }

-- the owners of the inode numbers from `number` on, ascending
abbrev pub owners_from : Layout → List ℕ → ℕ → List Owner
owners_from v image number = map (owner_of v image) (range_with_len number (inodes_of v - number))

-- the owner that `count_lines` looks at: it asks nothing of steps, so there are none
abbrev pub counted_owner : ℕ → Class → ℕ → Owner
counted_owner number class blocks = record { number = number; class = class; steps = []; blocks = blocks }
