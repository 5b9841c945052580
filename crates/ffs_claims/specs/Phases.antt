-- What phases 1 and 1b leave of a workspace at their answer, and how often they read the image.
use Rattle.std.specs.Prelude.{◌≡◌, ◌<◌, ◌≤◌, ◌+◌, ◌-◌, ◌*◌, ◌^◌, ℕ, Bool, false, List, ◌∷◌, OnErr, MatchResult, Result}
use Rattle.std.specs.{Prelude.{if◌then◌else◌, nat_lt, slice_index}, Int.div_ceil}
use Rattle.ffs_image.specs.{Device.Device, Known.{ForBytes, IsContents}}
use Rattle.ffs_volume.specs.{declared.Layout.Layout, Blocks.BlockCheck.{has_dup_lines, first_offer_lines}}
use Rattle.ffs_volume.specs.{Blocks.{Owners.owners_of, Claims.no_claims}, Costs.RescanRuns.rescan_runs}
use Rattle.ffs_volume.specs.Blocks.{KeptOffers.{Offer, kept_in_owners}, KeptSteps.claims_before}
use Rattle.ffs_volume.specs.{Messages.Kinds.{Message, phase1b}, Directories.Volumes.marked_by_phase1_at}
use Rattle.ffs_volume.specs.{Encodings.{Kinds.kind_at, Links.start_at, Notes.note_at}, Report.Memory.runs_limit}
use Rattle.ffs_volume.specs.{Report.Reads.{sweep_reads, table_blocks}, Costs.VolumeReads.indirect_count}
use Rattle.ffs_volume.specs.{Costs.VolumeReads.volume_scan_reads, Report.Whole.run_count}
use Rattle.ffs_maps.specs.Bits.{bits_of}
use Rattle.ffs_workspace.specs.{declared.workspace.Workspace.Workspace, Found.{WithFresh, WithPhase1}}
use Rattle.ffs_workspace.specs.Holds.{HoldsBlockCheck, HoldsPhase1, bool_at, has_unreported_dups}
use Rattle.ffs_claims.specs.{Leaves.{ClaimsAndFinds, StaySet}, Lines.of_lines, Rewalking.rescan_end}
use Rattle.ffs_claims.specs.Reporting.{OffersReported, ReportedInPart}

-- phase 1 leaves what it found in the image's bytes, and `has_dups` answers whether one of its lines is
-- a DUP line, which is just where phase 1b is to run. It has counted each Run that is seen
pub record IsLeftByPhase1 (v : Layout) (bytes : List ℕ) (w : Workspace) : Type 0 where
  pub holds : HoldsPhase1 v bytes w
  pub has_dups : w.has_dups ≡ has_dup_lines v (owners_of v bytes)
  pub count : w.runs_seen ≡ run_count v bytes

-- phase 1 was cut short: it has found what it finds of the inodes before a number, and nothing of others. The map
-- `used` has the reserved fragments and those that these inodes claim, and `duplicates` those of their DUP lines; both
-- may have more
pub record Phase1FoundInPart (v : Layout) (bytes : List ℕ) (w : Workspace) : Type 0 where
  pub number : ℕ
  pub kinds : (x : ℕ) → slice_index w.kinds.items x ≡ (if nat_lt x number then kind_at v bytes x else 0)
  pub marked : (x : ℕ) → bool_at w.marked.items x
      ≡ (if nat_lt x number then marked_by_phase1_at v bytes x else false)
  pub notes : (x : ℕ) → slice_index w.notes.items x ≡ (if nat_lt x number then note_at v bytes x else 0)
  pub starts : (x : ℕ) → slice_index w.references.items x ≡ (if nat_lt x number then start_at v bytes x else 0)
  pub used : StaySet (claims_before v bytes number).used (bits_of w.used)
  pub duplicates : StaySet (claims_before v bytes number).duplicates (bits_of w.duplicates)

-- phase 1 reads the image at most once for each block of the inode tables and once for each Run that
-- it looks at. The Runs are no more than a volume can have. Where the image gives its bytes, they are none
-- but those of its inodes, and it reads of them none but the indirect blocks that are seen
pub record Phase1Reads (v : Layout) (d : Device) (old new : Workspace) (before after : ℕ) : Type 0 where
  pub runs : new.runs_seen ≤ runs_limit v
  pub reads : after ≤ before + table_blocks v + new.runs_seen
  pub most : ForBytes (WithFresh v d old) (λ bytes. new.runs_seen ≤ run_count v bytes)
  pub known : ForBytes (WithFresh v d old) (λ bytes. after ≤ before + volume_scan_reads v bytes)

-- phase 1 claims, and finds what inodes are. From then on nothing is surveyed. All else is as it was, and where a
-- read or a write failed what `has_dups` answers, too
pub record Phase1Keeps {T E : Type 0} (old new : Workspace) (result : Result T E) : Type 0 where
  pub changes : ClaimsAndFinds (record old { has_dups = new.has_dups; surveyed = false }) new
  pub has_dups : OnErr result (new.has_dups ≡ old.has_dups)

-- phase 1b leaves what the block check found in the image's bytes. Nothing is surveyed yet, so counts of
-- references are where they start. It has reported the first kept offer of each fragment with a DUP line,
-- and looked at Runs up to the one that reports the last of them
pub record IsLeftByPhase1b (v : Layout) (bytes : List ℕ) (w : Workspace) : Type 0 where
  pub block_check : HoldsBlockCheck v bytes w
  pub unsurveyed : w.surveyed ≡ false
  pub reported : has_unreported_dups w ≡ false
  pub count : w.runs_again ≡ rescan_runs v bytes

-- the image gives the bytes, and the workspace holds what phase 1 notes of each inode: all that phase 1b goes by,
-- beside the fragments that are to be reported
abbrev pub WithNotes : Layout → Device → Workspace → List ℕ → Type 0
WithNotes v d w bytes = IsContents d.contents bytes × ((x : ℕ) → slice_index w.notes.items x ≡ note_at v bytes x)

-- the offers that inodes keep, of one inode after the other
abbrev pub kept_offers : Layout → List ℕ → List Offer
kept_offers v bytes = kept_in_owners v (no_claims v) (owners_of v bytes)

-- what phase 1b says where these fragments are to be reported: all with a DUP line, or those that a call before left
abbrev pub phase1b_messages_for : (dup : List Bool) → Layout → List ℕ → List Message
phase1b_messages_for dup v bytes = phase1b ∷ of_lines (first_offer_lines dup (kept_offers v bytes))

-- phase 1b has gone over the offers that inodes keep, or over the first of them where it was cut short
abbrev pub GoesOverOffers : {T E : Type 0} → Layout → List ℕ → (old new : Workspace) → Result T E → Type 0
GoesOverOffers v bytes old new result = MatchResult result (λ _. OffersReported (kept_offers v bytes) old new)
    (λ _. ReportedInPart (kept_offers v bytes) old new)

-- without a limit phase 1b reads the image at most once for each inode and once for each Run that it looks at, as
-- long as the count of Runs has room in a u64. Where the image gives its bytes it looks at no more
-- Runs than phase 1 did, and reads no more than phase 1 does then: each block of the inode tables once,
-- and each indirect block that is seen. Of the tables it reads no more blocks than up to the inode with the
-- last line. Where nothing is left to report, it reads nothing
pub record Phase1bReadsUnlimited (v : Layout) (d : Device) (old new : Workspace) (before after : ℕ) : Type 0 where
  pub runs : ForBytes (WithNotes v d old) (λ bytes. new.runs_again ≤ run_count v bytes)
  pub reads : new.runs_again < 2 ^ 64 - 1 → after ≤ before + v.ncg * v.ipg + new.runs_again
  pub known : ForBytes (WithNotes v d old) (λ bytes. after ≤ before + volume_scan_reads v bytes)
  pub last : ForBytes (WithPhase1 v d old) (λ bytes.
      after ≤ before + div_ceil (rescan_end v bytes) v.inopb + indirect_count v bytes)
  pub none : has_unreported_dups old ≡ false → after ≤ before

-- phase 1b reads as it does without a limit, and never more often than a sweep may
pub record Phase1bReads (v : Layout) (d : Device) (old new : Workspace) (before after : ℕ) : Type 0 where
  pub unlimited : Phase1bReadsUnlimited v d old new before after
  pub most : after ≤ before + sweep_reads v
