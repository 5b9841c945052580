-- The lines of phases 1 and 1b.
use Rattle.std.specs.Prelude.{ℕ, Bool, true, false, ◌*◌, ◌/◌, ◌&&◌, ◌||◌, not, List, [], ◌∷◌, ◌++◌, ◌==◌, slice_set}
use Rattle.std.specs.{Prelude.{if◌then◌else◌, count_by}, List.list_any}
use Rattle.ffs_volume.specs.declared.{constants.TheConstants.DEV_BSIZE, Layout.Layout, Class.Class}
use Rattle.ffs_volume.specs.declared.{Class.TheVariants.{Partial, Unknown}, BlockMessage.BlockMessage}
use Rattle.ffs_volume.specs.declared.BlockMessage.TheVariants.{PartAlloc, UnknownType, Bad, Dup, BlockCount}
use Rattle.ffs_volume.specs.Blocks.{Inodes.{is_file_or_dir, inode_of, class_of, is_unknown}, Owners.{Owner, owners_of}}
use Rattle.ffs_volume.specs.Blocks.Claims.{Claims, no_claims, at_next_inode, is_open, is_set, after_owner, after_owners}
use Rattle.ffs_volume.specs.Blocks.{Claims.{lines_of_steps}, KeptOffers.{Offer, kept_in_owners}}

-- the line of an inode's class
abbrev pub class_lines : ℕ → Class → List BlockMessage
class_lines inode Partial = PartAlloc inode ∷ []
class_lines inode Unknown = UnknownType inode ∷ []
class_lines inode _ = []

-- the number of sectors of so many fragments
abbrev pub sectors : Layout → ℕ → ℕ
sectors v fragments = fragments * (v.fsize / DEV_BSIZE)

-- the line of a file or directory whose blocks field isn't the number of sectors of its kept
-- offers; `end` is the state after the inode. An inode that was cut has no such line, since its
-- right number isn't known
abbrev pub count_lines : Layout → Owner → Claims → List BlockMessage
count_lines v o end =
    if is_file_or_dir o.class && (is_open end && not (o.blocks == sectors v end.kept))
    then BlockCount o.number o.blocks (sectors v end.kept) ∷ []
    else []

-- the lines of an inode in phase 1
abbrev pub owner_lines : Layout → Claims → Owner → List BlockMessage
owner_lines v s o =
    class_lines o.number o.class
    ++ (lines_of_steps v o.number (at_next_inode s) o.steps ++ count_lines v o (after_owner v s o))

-- the lines of inodes, one after the other
abbrev pub lines_of_owners : Layout → Claims → List Owner → List BlockMessage
lines_of_owners v s [] = []
lines_of_owners v s (o ∷ os) = owner_lines v s o ++ lines_of_owners v (after_owner v s o) os

-- a DUP for the first kept offer of each fragment that has a DUP in phase 1; `left` flags those of
-- which it is still to come. Where the fragment is reserved, phase 1 has reported that same offer already:
-- its line comes twice
abbrev pub first_offer_lines : List Bool → List Offer → List BlockMessage
first_offer_lines left [] = []
first_offer_lines left (o ∷ os) =
    if is_set left o.fragment then Dup o.fragment o.inode ∷ first_offer_lines (slice_set left o.fragment false) os
    else first_offer_lines left os

-- the lines of phase 1
unfoldable pub phase1_lines : Layout → List Owner → List BlockMessage
phase1_lines v os = lines_of_owners v (no_claims v) os

-- the lines of phase 1b
unfoldable pub phase1b_lines : Layout → List Owner → List BlockMessage
phase1b_lines v os = first_offer_lines (after_owners v (no_claims v) os).duplicates (kept_in_owners v (no_claims v) os)

-- the line is a DUP
abbrev pub is_dup_line : BlockMessage → Bool
is_dup_line (Dup fragment inode) = true
is_dup_line _ = false

-- phase 1b runs: phase 1 reported a DUP
abbrev pub has_dup_lines : Layout → List Owner → Bool
has_dup_lines v os = list_any is_dup_line (phase1_lines v os)

-- the line names the inode as one with a bad Run or a dup offer
abbrev pub blames : ℕ → BlockMessage → Bool
blames x (Bad fragment inode) = inode == x
blames x (Dup fragment inode) = inode == x
blames x _ = false

-- the inode has the class Unknown, or a line of phase 1 or 1b blames it: phases 2, 3 and 4 use this
unfoldable pub is_marked : (v : Layout) (image : List ℕ) (x : ℕ) → Bool
is_marked v image x =
    is_unknown (class_of v (inode_of v image x))
    || list_any (blames x) (phase1_lines v (owners_of v image) ++ phase1b_lines v (owners_of v image))

-- how many of some flags are set
abbrev pub set_count : List Bool → ℕ
set_count bits = count_by (λ b. b) bits

-- the fragments whose first kept offer is still to be reported in phase 1b, after some offers
abbrev pub unreported_after : List Bool → List Offer → List Bool
unreported_after left [] = left
unreported_after left (o ∷ os) = unreported_after (if is_set left o.fragment then slice_set left o.fragment false else left) os
