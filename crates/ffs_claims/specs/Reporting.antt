-- What phase 1b has reported, and what it leaves to report.
use Rattle.std.specs.{List.list_any, Prelude.{◌≡◌, ◌≢◌, ◌<◌, ℕ, Result, OnErr, OnOk, ◌||◌, List, [], ◌∷◌, ◌++◌, ◌≤◌}}
use Rattle.std.specs.Prelude.{◌+◌, ◌-◌, length, Ok, Err}
use Rattle.ffs_volume.specs.Blocks.{BlockCheck.{blames, first_offer_lines, set_count, unreported_after}, KeptOffers.Offer}
use Rattle.ffs_volume.specs.{declared.Layout.Layout, Blocks.Inodes.inodes_of, Messages.Kinds.Message}
use Rattle.ffs_image.specs.Device.{Device}
use Rattle.ffs_report.specs.{Paid.LastBegun, PhaseOutcome.ImageAfter, Progress.{Progress, Said, Says}}
use Rattle.ffs_report.specs.declared.{fault.RunFault.{RunFault, TheVariants.Out}, output.OutFault.OutFault}
use Rattle.ffs_maps.specs.Bits.{bits_of}
use Rattle.ffs_workspace.specs.{Holds.bool_at, Lengths.IsFor, Ready.CanRead, declared.workspace.Workspace.Workspace}
use Rattle.ffs_claims.specs.{Lines.of_lines, Moments.ClaimMoment}

-- offers were gone over: their fragments are reported, and their inodes marked
pub record OffersReported (offers : List Offer) (old new : Workspace) : Type 0 where
  pub duplicates : bits_of new.duplicates ≡ unreported_after (bits_of old.duplicates) offers
  pub marked : (x : ℕ) → bool_at new.marked.items x ≡ (bool_at old.marked.items x
      || list_any (blames x) (first_offer_lines (bits_of old.duplicates) offers))

-- the first of these offers were gone over, perhaps all of them
pub record ReportedInPart (offers : List Offer) (old new : Workspace) : Type 0 where
  pub past : List Offer
  pub rest : List Offer
  pub whole : past ++ rest ≡ offers
  pub reported : OffersReported past old new

-- what phase 1b changes: the fragments with a DUP line that are left to report, the marks, the count of
-- its Runs and the windows. All else is as it was
pub record Phase1bKeeps (old new : Workspace) : Type 0 where
  pub only : new ≡ record old {
    duplicates = new.duplicates;
    marked = new.marked;
    runs_again = new.runs_again;
    windows = new.windows;
  }

-- what reporting leaves: the lists have their lengths, and the windows, the claims and the Runs of
-- phase 1 are as they were
pub record ReportsOnly (v : Layout) (old new : Workspace) : Type 0 where
  pub made : IsFor v new
  pub windows : new.windows ≡ old.windows
  pub stays : Phase1bKeeps old new

-- what the offers of a Run leave: what reporting does, and no Run more is looked at
pub record OffersReportedOnly (v : Layout) (old new : Workspace) : Type 0 where
  pub reporting : ReportsOnly v old new
  pub runs : new.runs_again ≡ old.runs_again

-- so many fragments fewer are to be reported as messages were said whole, beside so many headings that came first.
-- After them a last message was begun, or none, whose fragment doesn't count. Of an output that doesn't give its bytes
-- the messages may be any, and no more is said than that the fragments are no more than before
pub record ClearsAsSaid {T : Type 0} (headings : ℕ) (old new : ClaimMoment) (result : Result T RunFault) : Type 0 where
  pub messages : List Message
  pub last : List Message
  pub few : length last ≤ 1
  pub between : Progress
  pub said : Said old.report between messages
  pub begun : LastBegun last between new.report result
  pub cleared : set_count (bits_of old.workspace.duplicates)
      ≡ set_count (bits_of new.workspace.duplicates) + (length messages - headings)

-- the answer of a call that reads nothing, as one of a call that may read
abbrev pub of_output : {T : Type 0} → Result T OutFault → Result T RunFault
of_output (Ok x) = Ok x
of_output (Err fault) = Err (Out fault)

-- a kept offer is gone over: it is reported, if it is to be, and all else is as offers leave it
pub record ReportsOffer (v : Layout) (offer : Offer) (old new : Workspace) : Type 0 where
  pub reported : OffersReported (offer ∷ []) old new
  pub only : OffersReportedOnly v old new

-- kept offers are gone over, up to one at which the output failed: those are reported that are the first of a
-- fragment with a DUP line, and all else is as reporting leaves it
pub record ReportsOffers {T : Type 0} (v : Layout) (offers : List Offer) (old new : ClaimMoment)
    (result : Result T OutFault) : Type 0 where
  pub said : Says old.report new.report
      (of_lines (first_offer_lines (bits_of old.workspace.duplicates) offers)) result
  pub reported : OnOk result (OffersReported offers old.workspace new.workspace)
  pub part : OnErr result (ReportedInPart offers old.workspace new.workspace)
  pub clears : ClearsAsSaid 0 old new (of_output result)
  pub only : ReportsOnly v old.workspace new.workspace

-- first kept offers of an inode can be reported: the workspace was made for the volume, and the
-- inode's number is one of it
pub record CanReport (v : Layout) (w : Workspace) (number : ℕ) : Type 0 where
  pub made : IsFor v w
  pub number_fits : number < inodes_of v

-- an inode can be walked over again: the windows hold what the image gives, the inode's number is one of
-- the volume, and something is to be reported still
pub record CanRewalk (v : Layout) (d : Device) (w : Workspace) (number : ℕ) : Type 0 where
  pub ready : CanRead v d w
  pub number_fits : number < inodes_of v
  pub pending : set_count (bits_of w.duplicates) ≢ 0

-- what walking over an inode again leaves: the image, but for a read that failed, windows that hold what
-- it gives, and the claims as they were
pub record RewalkLeaves {T : Type 0} (v : Layout) (d d' : Device) (old new : Workspace) (result : Result T RunFault)
    : Type 0 where
  pub image : ImageAfter d d' result
  pub ready : CanRead v d' new
  pub stays : Phase1bKeeps old new
