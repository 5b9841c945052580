-- The lines of phase 5.
use Rattle.std.specs.Prelude.{ℕ, Bool, true, false, ◌&&◌, not, List, [], ◌∷◌, ◌++◌, nat_lt, if◌then◌else◌, ℤ}
use Rattle.std.specs.List.{flat_map}
use Rattle.ffs_volume.specs.declared.{Layout.Layout, Class.Class, BlockMessage.{BlockMessage, TheVariants.GroupMagic}}
use Rattle.ffs_volume.specs.{declared.BlockMessage.TheVariants.{FreeCounts, MapsWrong, GroupSums}, Blocks.Owners.Owner}
use Rattle.ffs_volume.specs.Blocks.Claims.{is_set, no_claims, after_owners}
pub use Rattle.ffs_volume.specs.Messages.Kinds.{unless}
use Rattle.ffs_volume.specs.Groups.Records.{group_block, summary_record, group_numbers, has_right_magic, maps_fit}
use Rattle.ffs_volume.specs.Groups.Records.{has_right_maps, has_right_sums, has_right_record, has_right_totals}

-- the lines of a group whose magic number is right
abbrev pub records_lines : (v : Layout) (image : List ℕ) (free : ℕ → Bool) (class : ℕ → Class) (c : ℕ) →
    List BlockMessage
records_lines v image free class c =
    unless (has_right_record v free class c (summary_record v image c)) FreeCounts
    ++ (unless (maps_fit v (group_block v image c) && has_right_maps v free class c (group_block v image c)) MapsWrong
    ++ unless (has_right_sums v free class c (group_block v image c)) GroupSums)

-- the lines of a group, repeated ones too; where its magic number is wrong, its summary record
-- alone is compared
abbrev pub group_lines : (v : Layout) (image : List ℕ) (free : ℕ → Bool) (class : ℕ → Class) (c : ℕ) →
    List BlockMessage
group_lines v image free class c =
    if has_right_magic v (group_block v image c) then records_lines v image free class c
    else GroupMagic c ∷ unless (has_right_record v free class c (summary_record v image c)) FreeCounts

-- the lines of all groups, and of the superblock's totals, repeated ones too
abbrev pub all_group_lines : Layout → List ℕ → List ℤ → (ℕ → Bool) → (ℕ → Class) → List BlockMessage
all_group_lines v image totals free class =
    flat_map (group_lines v image free class) (group_numbers v)
    ++ unless (has_right_totals v free class totals) FreeCounts

-- which of the messages that a report has only once were reported
pub record AlreadyReported : Type 0 where
  pub counts : Bool
  pub maps : Bool
  pub sums : Bool

-- the message was reported
abbrev pub is_reported : AlreadyReported → BlockMessage → Bool
is_reported t FreeCounts = t.counts
is_reported t MapsWrong = t.maps
is_reported t GroupSums = t.sums
is_reported t _ = false

-- the message is noted as reported
abbrev pub note_reported : AlreadyReported → BlockMessage → AlreadyReported
note_reported t FreeCounts = record t { counts = true }
note_reported t MapsWrong = record t { maps = true }
note_reported t GroupSums = record t { sums = true }
note_reported t _ = t

-- the messages, where each of the three that a report has once is left out if it was reported before
abbrev pub reported_once : AlreadyReported → List BlockMessage → List BlockMessage
reported_once t [] = []
reported_once t (m ∷ ms) = if is_reported t m then reported_once t ms else m ∷ reported_once (note_reported t m) ms

-- none of the three was reported
abbrev pub unreported : AlreadyReported
unreported = record { counts = false; maps = false; sums = false }

-- the lines of phase 5
unfoldable pub phase5_lines : Layout → List ℕ → List ℤ → (ℕ → Bool) → (ℕ → Class) → List BlockMessage
phase5_lines v image totals free class = reported_once unreported (all_group_lines v image totals free class)

-- f is free as phase 5 counts it: neither reserved nor claimed by a kept offer
abbrev pub is_free_of_kept : Layout → List Owner → ℕ → Bool
is_free_of_kept v os f = nat_lt f v.size && not (is_set (after_owners v (no_claims v) os).used f)
