-- What phase 1 leaves over an output that never fails.
use Rattle.std.{proofs.Common.{◌≡◌, ℕ, List, Err, arith}, specs.Borrow.GName}
use Rattle.ffs_image.specs.Device.{Device}
use Rattle.ffs_memory.specs.Account.{Account, Granted}
use Rattle.ffs_volume.specs.{declared.Layout.Layout, Messages.Kinds.Message, Report.Memory.held_of}
use Rattle.ffs_report.specs.{PhaseOutcome.{ImageAfter, PhaseReports}, Progress.{Progress, starts}}
use Rattle.ffs_report.specs.declared.fault.RunFault.{RunFault, TheVariants.{Read, Out}}
use Rattle.ffs_finding.specs.{declared.find.FindFault.TheVariants.Failed, Claims.{TakesClaims, discarding}}

-- where phase 1 failed, a read did
pub failed : (knows : List ℕ → Type 0) (all : List ℕ → List Message) (output : GName) (a b : Progress)
    (v : Layout) (d d' : Device) (held held' : Account) (fault : RunFault) → a ≡ starts output discarding →
    b.sink ≡ discarding → PhaseReports {T = Unit {0}} knows all a b (Err fault) →
    ImageAfter {T = Unit {0}} d d' (Err fault) → Granted held held' (held_of v) →
    TakesClaims v d d' held held' (Err (Failed fault))
failed knows all output a b v d d' held held' (Read fault) begun quiet p image took = (image, took)
failed knows all output a b v d d' held held' (Out fault) begun quiet p image took = grind arith
