-- What was said where a read failed.
use Rattle.std.proofs.Common.{arith, ◌≡◌, ℕ, ◌<◌, ◌≤◌, ◌+◌, List, Result, Ok, Err}
use Rattle.ffs_volume.specs.{Blocks.Inodes.inodes_of, Messages.Kinds.Message, declared.Layout.Layout}
use Rattle.ffs_image.specs.Known.{ForBytes}
use Rattle.ffs_report.{proofs.Reports.said_then, specs.declared.fault.RunFault.RunFault}
use Rattle.ffs_report.specs.{Fails.FailsIn, PhaseOutcome.{PhaseReports, SaidOf}, Progress.Progress}
use Rattle.ffs_report.specs.declared.fault.RunFault.TheVariants.{Read, Out}
use Rattle.ffs_claims.specs.{BeforeFault.{DupsSaidBelow, SaidBelow, reads_to_inode}, Moments.PhaseMoment, Phases.WithNotes}

-- the same in other words
pub fails_on : {T : Type 0} {P Q : ℕ → Type 0} (r : Result T RunFault) → ((sector : ℕ) → P sector → Q sector) →
    FailsIn P r → FailsIn Q r
fails_on (Ok x) more p = tt
fails_on (Err (Read fault)) more p = more fault.sector p
fails_on (Err (Out fault)) more p = tt

-- the messages of the inodes below one were said, and a read failed for it
pub said_below : (T E : Type 0) (knows knows' : List ℕ → Type 0) (v : Layout) (all part : List ℕ → List Message)
    (from : ℕ → List ℕ → List Message) (old new : PhaseMoment) (b : Progress) (x : ℕ) (fault : RunFault) →
    x < inodes_of v → SaidOf knows (from x) all old.report b →
    PhaseReports {T = T} knows' part b new.report (Err fault) →
    ForBytes knows (λ bytes. new.reads ≤ old.reads + reads_to_inode v x bytes) →
    FailsIn {T = E} (λ sector. SaidBelow knows v all from old new) (Err fault)
said_below T E knows knows' v all part from old new b x (Read fault) low p q few = record {
  inode = x;
  low = low;
  below = p.messages;
  whole = p.right;
  first = q.messages;
  said = said_then old.report b new.report p.messages q.messages p.said q.outcome;
  reads = few;
}
said_below T E knows knows' v all part from old new b x (Out fault) low p q few = tt

-- more is known than was wanted, and no more reads are counted
pub dups_knowing : {v : Layout} (old new old' new' : PhaseMoment) →
    ForBytes (WithNotes v old'.image old'.workspace) (WithNotes v old.image old.workspace) →
    old'.workspace ≡ old.workspace → old'.report ≡ old.report → new'.report ≡ new.report →
    new'.reads + old.reads ≤ old'.reads + new.reads → DupsSaidBelow v old new → DupsSaidBelow v old' new'
dups_knowing old new old' new' more w a b few p = let q = p.below in record {
  left = p.left;
  below = record {
    inode = q.inode;
    low = q.low;
    below = q.below;
    whole = λ bytes k. rw w (q.whole bytes (more bytes k));
    first = q.first;
    said = rw (a, b) q.said;
    reads = λ bytes k. omega (arith, q.reads bytes (more bytes k), few);
  };
}
