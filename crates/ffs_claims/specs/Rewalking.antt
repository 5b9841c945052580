-- The offers of the Runs that phase 1b looks at, and what walking over an inode again leaves. Which Runs these are, and
-- how many of their offers are kept, says `SeenRuns` of ffs_walk.
use Rattle.std.specs.{List.{flat_map, range_with_len}, Prelude.{◌≡◌, ◌<◌, ◌≤◌, ℕ, ◌+◌, ◌-◌, ◌^◌, List, [], ◌∷◌, length}}
use Rattle.std.specs.Prelude.{map, Result, OnErr, OnOk, slice_index}
use Rattle.ffs_volume.specs.{Blocks.BlockCheck.first_offer_lines, Costs.RescanRuns.runs_until_reported}
use Rattle.ffs_volume.specs.Blocks.{KeptOffers.{Offer, kept_in_steps, offer_of}, Inodes.inode_of, Steps.steps_of}
use Rattle.ffs_volume.specs.{Encodings.{Replay.fresh_replay, Notes.cut_in}, Blocks.Claims.{Claims, after_owner}}
use Rattle.ffs_volume.specs.Blocks.{Claims.{all_claims, at_next_inode, no_claims}, Owners.{Owner, owners_of}}
use Rattle.ffs_volume.specs.declared.{constants.TheConstants.ROOTINO, Inode.Inode, Layout.Layout}
use Rattle.ffs_report.specs.{PhaseOutcome.PhaseReports, declared.fault.RunFault.RunFault}
use Rattle.ffs_image.specs.{Device.ForContents, Known.IsContents}
use Rattle.ffs_maps.specs.Bits.{bits_of}
use Rattle.ffs_walk.specs.{SeenRuns.{indirect_in_run, seen_runs}, declared.seen_runs.SeenRun.SeenRun}
use Rattle.ffs_workspace.specs.{Tables.{HoldsInode, HoldsPiece}, declared.workspace.Workspace.Workspace}
use Rattle.ffs_claims.specs.{Lines.of_lines, Moments.{PhaseMoment, claim_at}, Reporting.{ClearsAsSaid, OffersReported}}
use Rattle.ffs_claims.specs.Reporting.{ReportedInPart, RewalkLeaves}

-- the kept offers of a Run, and of Runs
abbrev pub run_offers : (number : ℕ) → SeenRun → List Offer
run_offers number run = map (offer_of number) (range_with_len run.start run.kept)

abbrev pub offers_of_runs : (number : ℕ) → List SeenRun → List Offer
offers_of_runs number runs = flat_map (run_offers number) runs

-- how many of some Runs are indirect blocks
abbrev pub indirect_among : List SeenRun → ℕ
indirect_among [] = 0
indirect_among (run ∷ runs) = indirect_in_run run + indirect_among runs

-- the offers that each inode keeps, of inodes one after the other
unfoldable pub offers_by_owner : Layout → Claims → List Owner → List (List Offer)
offers_by_owner v s [] = []
offers_by_owner v s (o ∷ os) =
    kept_in_steps v o.number (at_next_inode s) o.steps ∷ offers_by_owner v (after_owner v s o) os

-- the number after the last inode that phase 1b looks at: it looks at all up to the one that reports the last
-- fragment with a DUP line
unfoldable pub rescan_end : Layout → List ℕ → ℕ
rescan_end v bytes =
    ROOTINO + runs_until_reported (all_claims v bytes).duplicates (offers_by_owner v (no_claims v) (owners_of v bytes))

-- a count rose by so many; it is exact as long as it fits a u64
abbrev pub RoseBy : (old new more : ℕ) → Type 0
RoseBy old new more = old + more < 2 ^ 64 → new ≡ old + more

-- there were no more reads (reads' less reads) than a count of Runs rose by (new less old), as long as
-- that count has room in a u64
pub record RunsPay (reads reads' old new : ℕ) : Type 0 where
  pub rises : new < 2 ^ 64 - 1 → old ≤ new
  pub paid : new < 2 ^ 64 - 1 → reads' + old ≤ reads + new

-- an inode was walked over again, with these Runs: its kept offers were gone over, and its Runs were
-- counted up to the one that reports the last fragment with a DUP line
pub record Rewalked (number : ℕ) (runs : List SeenRun) (old new : Workspace) : Type 0 where
  pub reported : OffersReported (offers_of_runs number runs) old new
  pub count : RoseBy old.runs_again new.runs_again (runs_until_reported (bits_of old.duplicates)
      (map (run_offers number) runs))

-- the Runs of an inode, by the cut that is noted of it
abbrev pub noted_runs : Layout → Workspace → (number : ℕ) → Inode → (bytes : List ℕ) → List SeenRun
noted_runs v w number inode bytes =
    seen_runs v (cut_in (slice_index w.notes.items number)) fresh_replay (steps_of v inode bytes)

-- there are at most as many reads as these Runs have indirect blocks
abbrev pub ReadsIndirectAgain : List SeenRun → (reads reads' : ℕ) → Type 0
ReadsIndirectAgain runs reads reads' = reads' ≤ reads + indirect_among runs

-- an inode is walked over again: of its kept offers those are reported that are the first of a fragment
-- with a DUP line, and its Runs are counted, which pay for the reads. An image that gives its bytes is
-- read at most once for each indirect block that is seen
pub record Rewalks {T : Type 0} (v : Layout) (number : ℕ) (inode : List ℕ → Inode) (old new : PhaseMoment)
    (result : Result T RunFault) : Type 0 where
  pub text : PhaseReports (IsContents old.image.contents) (λ bytes.
      of_lines (first_offer_lines (bits_of old.workspace.duplicates)
      (offers_of_runs number (noted_runs v old.workspace number (inode bytes) bytes))))
      old.report new.report result
  pub rewalked : OnOk result (ForContents old.image.contents (λ bytes.
      Rewalked number (noted_runs v old.workspace number (inode bytes) bytes) old.workspace new.workspace))
  pub part : OnErr result (ForContents old.image.contents (λ bytes. ReportedInPart
      (offers_of_runs number (noted_runs v old.workspace number (inode bytes) bytes)) old.workspace new.workspace))
  pub runs : ForContents old.image.contents (λ bytes. new.workspace.runs_again
      ≤ old.workspace.runs_again + length (noted_runs v old.workspace number (inode bytes) bytes))
  pub clears : ClearsAsSaid 0 (claim_at old) (claim_at new) result
  pub left : RewalkLeaves v old.image new.image old.workspace new.workspace result
  pub counted : RunsPay old.reads new.reads old.workspace.runs_again new.workspace.runs_again
  pub known : ForContents old.image.contents (λ bytes.
      ReadsIndirectAgain (noted_runs v old.workspace number (inode bytes) bytes) old.reads new.reads)

-- an inode is read again by its block of the inode table. Where the window held the inode, the table isn't
-- read and the window stays. Else the window holds the inode's block then
pub record RereadsByBlock {T : Type 0} (v : Layout) (number : ℕ) (old new : PhaseMoment) (result : Result T RunFault)
    : Type 0 where
  pub again : HoldsInode old.workspace.windows.table number →
      new.workspace.windows.table ≡ old.workspace.windows.table
  pub known : HoldsInode old.workspace.windows.table number → ForContents old.image.contents (λ bytes.
      ReadsIndirectAgain (noted_runs v old.workspace number (inode_of v bytes number) bytes) old.reads new.reads)
  pub block : (HoldsInode old.workspace.windows.table number → ⊥)
      → OnOk result (HoldsPiece v v.inopb number new.workspace.windows.table)
