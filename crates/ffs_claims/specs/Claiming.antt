-- What inodes ask for before they claim, and what they leave.
use Rattle.std.specs.{List.range_with_len, Prelude.{◌≡◌, ℕ, ◌+◌, ◌<◌, ◌≤◌, Bool, true, false, List, Result, OnOk, IfOk}}
use Rattle.ffs_volume.specs.Blocks.{BlockCheck.owner_lines, Inodes.{class_of, inodes_of}, Owners.{Owner, owner_of}}
use Rattle.ffs_volume.specs.Blocks.Claims.{Claims, after_offer, after_offers, after_owner, after_step, after_steps}
use Rattle.ffs_volume.specs.Blocks.Claims.{at_next_inode, is_open, lines_of_offers, lines_of_steps, no_claims}
use Rattle.ffs_volume.specs.{Blocks.Claims.step_lines, Disk.Areas.is_run_in_range, Report.Memory.runs_without_claim}
use Rattle.ffs_volume.specs.{Costs.VolumeReads.indirect_in_steps, Laws.ClaimBounds.{used_bits, ClaimBound}}
use Rattle.ffs_volume.specs.{Laws.RunLengths.HasLength, declared.{Class.Class, Inode.Inode, Layout.Layout, Step.Step}}
use Rattle.ffs_image.specs.{Device.{Device, ForContents}, Known.IsContents}
use Rattle.ffs_report.specs.{PhaseOutcome.{ImageAfter, PhaseReports}, Progress.Says, declared.fault.RunFault.RunFault}
use Rattle.ffs_layout.specs.declared.geometry.Geometry.{Geometry}
use Rattle.ffs_maps.specs.{Bits.bits_of, Reserved.with_reserved}
use Rattle.ffs_walk.specs.Counts.{indirect_in_step}
use Rattle.ffs_workspace.specs.{Holds.{IsFresh, claims_of}, Lengths.IsFor, Ready.CanRead, Tables.HoldsInode}
use Rattle.ffs_workspace.specs.{Tables.HoldsPiece, declared.workspace.Workspace.Workspace}
use Rattle.ffs_claims.specs.{Area.IsDataArea, Bounds.{inode_bound, step_bound}, Leaves.{CanOffer, ClaimsAndFinds}}
use Rattle.ffs_claims.specs.{Leaves.{ClaimsOnly, HasBegun, OffersOnly, SameFound}, Lines.of_lines, Moments.ClaimMoment}
use Rattle.ffs_claims.specs.{Moments.PhaseMoment, declared.{area.{DataArea.DataArea, Run.Run}, claim.Scan.Scan}}

-- the reserved fragments are set in the map `used`: where the workspace was as it was made, they alone are
-- used then. The counts of the current inode and that of Runs are 0, and nothing else changes
pub record Reserves (v : Layout) (old new : Workspace) : Type 0 where
  pub used : bits_of new.used ≡ with_reserved v (bits_of old.used)
  pub claims : IsFresh v old → claims_of new ≡ no_claims v
  pub runs : new.runs_seen ≡ 0
  pub counts : new
      ≡ record old { used = new.used; bad = 0; dup_offers = 0; kept = 0; tail = false; runs_seen = 0 }
  pub only : ClaimsOnly v old new

-- an inode can claim fragments: the windows hold what the image gives, and each Run that lies in the data area
-- is in range
pub record CanClaim (v : Layout) (d : Device) (w : Workspace) (area : DataArea) : Type 0 where
  pub ready : CanRead v d w
  pub all_in_range : IsDataArea v area

-- an inode can claim in a scan: its number is one of the volume, the walk is over the volume, and the Runs
-- counted so far leave room for its own
pub record CanClaimInode (g : Geometry) (d : Device) (w : Workspace) (scan : Scan) (number : ℕ) : Type 0 where
  pub claim : CanClaim g.layout d w scan.area
  pub walk : scan.walk.geometry ≡ g
  pub number_fits : number < inodes_of g.layout
  pub runs : w.runs_seen < inode_bound

-- the steps of the current inode can claim: `class` is the inode's class, the walk is over the volume, and the
-- inode has no bad Run, no dup offer and no kept offer yet
pub record CanClaimSteps (g : Geometry) (d : Device) (w : Workspace) (scan : Scan) (class : Class) (i : Inode)
    : Type 0 where
  pub class_is : class ≡ class_of g.layout i
  pub claim : CanClaim g.layout d w scan.area
  pub walk : scan.walk.geometry ≡ g
  pub begun : HasBegun w

-- the next step of an inode can be seen: the inode isn't cut, and there is room to count its
-- fragments and Runs. `most` is one of `Bounds`
pub record CanSeeNext (v : Layout) (w : Workspace) (area : DataArea) (most : ℕ) : Type 0 where
  pub made : IsFor v w
  pub all_in_range : IsDataArea v area
  pub uncut : is_open (claims_of w) ≡ true
  pub room : w.kept < most
  pub runs : w.runs_seen < most

-- this step can be seen as an inode's next one: it has as many fragments as a step can have
pub record CanSeeStep (v : Layout) (w : Workspace) (area : DataArea) (step : Step) : Type 0 where
  pub next : CanSeeNext v w area step_bound
  pub length : HasLength v.frag step

-- the offers of a Run can be taken: the inode isn't cut, the count of kept offers has room for them,
-- and they are in range if they are said to be
pub record CanTakeOffers (v : Layout) (w : Workspace) (run : Run) (known_in_range : Bool) : Type 0 where
  pub uncut : is_open (claims_of w) ≡ true
  pub offer : CanOffer v w run.len known_in_range (is_run_in_range v run.start run.len)

-- what claiming leaves of the workspace (`ClaimsOnly`), and of the data area: each Run in it is in range
pub record ClaimsInArea (v : Layout) (old new : Workspace) (area : DataArea) : Type 0 where
  pub only : ClaimsOnly v old new
  pub all_in_range : IsDataArea v area

-- between two workspaces no more Runs are seen than fragments were unused at first, and `runs_without_claim`:
-- each Run that an inode sees claims a fragment, but for its bad Runs and its dup offers
abbrev pub FewRuns : Layout → (old new : Workspace) → Type 0
FewRuns v old new = new.runs_seen + used_bits (claims_of old) ≤ old.runs_seen + v.size + runs_without_claim

-- what the steps of an inode leave: few Runs more, claims within the bound (`ClaimBound`), what was found and
-- the piece of the inode table as they were, and all that the next inode asks for, with the image as it is then
pub record StepsLeave {T : Type 0} (v : Layout) (d : Device) (old new : Workspace) (area : DataArea)
    (result : Result T RunFault) : Type 0 where
  pub claim : CanClaim v d new area
  pub bound : FewRuns v old new
  pub claim_bound : OnOk result (ClaimBound (claims_of old) (claims_of new))
  pub found : SameFound old new
  pub table : new.windows.table ≡ old.windows.table

-- there are at most as many reads as indirect blocks of the next inode are seen
abbrev pub ReadsIndirect : Layout → Claims → Owner → (reads reads' : ℕ) → Type 0
ReadsIndirect v s o reads reads' = reads' ≤ reads + indirect_in_steps v (at_next_inode s) o.steps

-- an inode is read by its block of the inode table. Where the window held the inode, the table isn't read and
-- the window stays: there are no more reads than Runs that are seen, and in an image that gives its bytes no more
-- than indirect blocks that are seen. Else the window holds the inode's block then
pub record ReadsByBlock {T : Type 0} (v : Layout) (number : ℕ) (old new : PhaseMoment) (result : Result T RunFault)
    : Type 0 where
  pub again : HoldsInode old.workspace.windows.table number →
      (new.workspace.windows.table ≡ old.workspace.windows.table)
      × (new.reads + old.workspace.runs_seen ≤ old.reads + new.workspace.runs_seen)
  pub known : HoldsInode old.workspace.windows.table number → ForContents old.image.contents
      (λ bytes. ReadsIndirect v (claims_of old.workspace) (owner_of v bytes number) old.reads new.reads)
  pub block : (HoldsInode old.workspace.windows.table number → ⊥)
      → OnOk result (HoldsPiece v v.inopb number new.workspace.windows.table)

-- what an inode leaves: the image, but for a read that failed, what the next inode asks for, few Runs more, and all
-- that inodes which claim don't change (`ClaimsAndFinds`). Of the Runs that it sees at most `runs_without_claim`
-- claim no fragment, and each read is paid by a Run that is seen
pub record InodeLeaves {T : Type 0} (g : Geometry) (old new : PhaseMoment) (scan : Scan) (result : Result T RunFault)
    : Type 0 where
  pub image : ImageAfter old.image new.image result
  pub claim : CanClaim g.layout new.image new.workspace scan.area
  pub walk : scan.walk.geometry ≡ g
  pub bound : FewRuns g.layout old.workspace new.workspace
  pub runs_claim : OnOk result (new.workspace.runs_seen + used_bits (claims_of old.workspace)
      ≤ old.workspace.runs_seen + used_bits (claims_of new.workspace) + runs_without_claim)
  pub changes : ClaimsAndFinds old.workspace new.workspace
  pub counted : new.reads + old.workspace.runs_seen ≤ old.reads + new.workspace.runs_seen

-- an offer is taken: the claims are those after it, and all else is as offers leave it
pub record TakesOffer (v : Layout) (fragment : ℕ) (old new : Workspace) : Type 0 where
  pub claims : claims_of new ≡ after_offer v (claims_of old) fragment
  pub only : OffersOnly v old new

-- the offers of a Run are taken, one after another: their lines are said, the claims are those after
-- them, and all else is as offers leave it
pub record TakesOffers {T E : Type 0} (v : Layout) (number : ℕ) (run : Run) (old new : ClaimMoment)
    (result : Result T E) : Type 0 where
  pub said : Says old.report new.report
      (of_lines (lines_of_offers v number (claims_of old.workspace) (range_with_len run.start run.len))) result
  pub claims : OnOk result (claims_of new.workspace
      ≡ after_offers v (claims_of old.workspace) (range_with_len run.start run.len))
  pub only : OffersOnly v old.workspace new.workspace

-- a step of an inode claims what it offers: its lines are said, the claims are those after it, and the
-- answer is whether the next step is seen. No more Runs are seen than its own, and at least one where it
-- is an indirect block
pub record ClaimsStep {E : Type 0} (v : Layout) (number : ℕ) (step : Step) (old new : ClaimMoment)
    (result : Result Bool E) : Type 0 where
  pub said : Says old.report new.report (of_lines (step_lines v number (claims_of old.workspace) step)) result
  pub claims : OnOk result (claims_of new.workspace ≡ after_step v (claims_of old.workspace) step)
  pub seen : IfOk result (λ seen. seen ≡ is_open (claims_of new.workspace))
  pub counted : old.workspace.runs_seen + indirect_in_step step ≤ new.workspace.runs_seen
  pub runs : new.workspace.runs_seen ≤ (after_step v (claims_of old.workspace) step).runs

-- the steps of an owner claim what they offer: their lines are reported, the claims are those after
-- them, the next inode can be walked over, and each read is paid by a Run that is seen. An image that
-- gives its bytes is read at most once for each indirect block that is seen, and no more Runs are seen than theirs
pub record ClaimsSteps {T : Type 0} (g : Geometry) (owner : List ℕ → Owner) (old new : PhaseMoment) (scan : Scan)
    (result : Result T RunFault) : Type 0 where
  pub text : PhaseReports (IsContents old.image.contents) (λ bytes.
      of_lines (lines_of_steps g.layout (owner bytes).number (claims_of old.workspace) (owner bytes).steps))
      old.report new.report result
  pub claims : OnOk result (ForContents old.image.contents (λ bytes.
      claims_of new.workspace ≡ after_steps g.layout (claims_of old.workspace) (owner bytes).steps))
  pub image : ImageAfter old.image new.image result
  pub left : StepsLeave g.layout new.image old.workspace new.workspace scan.area result
  pub walk : scan.walk.geometry ≡ g
  pub counted : new.reads + old.workspace.runs_seen ≤ old.reads + new.workspace.runs_seen
  pub known : ForContents old.image.contents (λ bytes.
      new.reads ≤ old.reads + indirect_in_steps g.layout (claims_of old.workspace) (owner bytes).steps)
  pub most : ForContents old.image.contents (λ bytes.
      new.workspace.runs_seen ≤ (after_steps g.layout (claims_of old.workspace) (owner bytes).steps).runs)

-- an inode claims as an owner of fragments: its lines are reported, the claims are those after it, and
-- an image that gives its bytes is read at most once for each indirect block that is seen, and no more Runs are seen
-- than the owner's
pub record ClaimsOwner {T : Type 0} (g : Geometry) (owner : List ℕ → Owner) (old new : PhaseMoment) (scan : Scan)
    (result : Result T RunFault) : Type 0 where
  pub text : PhaseReports (IsContents old.image.contents)
      (λ bytes. of_lines (owner_lines g.layout (claims_of old.workspace) (owner bytes))) old.report new.report result
  pub claims : OnOk result (ForContents old.image.contents (λ bytes.
      claims_of new.workspace ≡ after_owner g.layout (claims_of old.workspace) (owner bytes)))
  pub left : InodeLeaves g old new scan result
  pub known : ForContents old.image.contents
      (λ bytes. ReadsIndirect g.layout (claims_of old.workspace) (owner bytes) old.reads new.reads)
  pub most : ForContents old.image.contents
      (λ bytes. new.workspace.runs_seen ≤ (after_owner g.layout (claims_of old.workspace) (owner bytes)).runs)
