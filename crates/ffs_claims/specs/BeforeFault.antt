-- What phases 1 and 1b have said where a read failed: there is an inode, and all messages of those below it were said.
use Rattle.std.specs.{Int.div_ceil, Prelude.{◌≡◌, ℕ, ◌+◌, ◌-◌, ◌<◌, ◌≤◌, Bool, List, ◌++◌}}
use Rattle.ffs_volume.specs.Blocks.{BlockCheck.{first_offer_lines, lines_of_owners}, Inodes.inodes_of}
use Rattle.ffs_volume.specs.Blocks.{KeptOffers.kept_in_owners, KeptSteps.claims_before}
use Rattle.ffs_volume.specs.Costs.VolumeReads.{indirect_count, indirect_in_owners}
use Rattle.ffs_volume.specs.{Messages.Kinds.Message, declared.Layout.Layout}
use Rattle.ffs_image.specs.Known.{ForBytes}
use Rattle.ffs_report.specs.Progress.{Said}
use Rattle.ffs_maps.specs.Bits.{bits_of}
use Rattle.ffs_volume.specs.Report.Whole.{phase1_messages}
use Rattle.ffs_workspace.specs.Found.{WithFresh}
use Rattle.ffs_claims.specs.{Lines.{of_lines, owners_from}, Moments.PhaseMoment, Phases.{WithNotes, phase1b_messages_for}}

-- how many reads the inodes up to x ask for: one for each of their blocks of the inode tables, and one for each
-- indirect block that is seen, but for those of later inodes
abbrev pub reads_to_inode : Layout → (x : ℕ) → List ℕ → ℕ
reads_to_inode v x bytes = div_ceil (x + 1) v.inopb
    + (indirect_count v bytes - indirect_in_owners v (claims_before v bytes (x + 1)) (owners_from v bytes (x + 1)))

-- a read failed for an inode: all messages of those below it were said, and perhaps first ones of its own (that they
-- are its own, the clause `text` says). No more was read than the inodes up to it ask for. `all` are the messages of the
-- phase, and `from` those from an inode on
pub record SaidBelow (knows : List ℕ → Type 0) (v : Layout) (all : List ℕ → List Message)
    (from : ℕ → List ℕ → List Message) (old new : PhaseMoment) : Type 0 where
  pub inode : ℕ
  pub low : inode < inodes_of v
  pub below : List Message
  pub whole : ForBytes knows (λ bytes. below ++ from inode bytes ≡ all bytes)
  pub first : List Message
  pub said : Said old.report new.report (below ++ first)
  pub reads : ForBytes knows (λ bytes. new.reads ≤ old.reads + reads_to_inode v inode bytes)

-- the lines of phase 1 from the inode x on
abbrev pub lines_from_inode : Layout → (x : ℕ) → List ℕ → List Message
lines_from_inode v x bytes = of_lines (lines_of_owners v (claims_before v bytes x) (owners_from v bytes x))

-- a read failed in phase 1
abbrev pub LinesSaidBelow : Layout → (old new : PhaseMoment) → Type 0
LinesSaidBelow v old new =
    SaidBelow (WithFresh v old.image old.workspace) v (phase1_messages v) (lines_from_inode v) old new

-- the lines of phase 1b from the inode x on, where these fragments are left to report
abbrev pub dups_from_inode : (left : List Bool) → Layout → (x : ℕ) → List ℕ → List Message
dups_from_inode left v x bytes =
    of_lines (first_offer_lines left (kept_in_owners v (claims_before v bytes x) (owners_from v bytes x)))

-- a read failed in phase 1b. `left` may be any: a line from an inode on names none below it, so the lines of those are
-- all among the messages below
pub record DupsSaidBelow (v : Layout) (old new : PhaseMoment) : Type 0 where
  pub left : List Bool
  pub below : SaidBelow (WithNotes v old.image old.workspace) v
      (phase1b_messages_for (bits_of old.workspace.duplicates) v) (dups_from_inode left v) old new
