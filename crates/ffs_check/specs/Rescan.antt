-- The rescan, which is phase 1b where phase 1 has a DUP line: what is known of the image's bytes before it, what it
-- leaves and reads, and what a workspace answers then.
use Rattle.std.specs.Prelude.{ℕ, ◌≡◌, ◌⊎◌, ◌≤◌, ◌+◌, false, if◌then◌else◌, List, Result, OnOk}
use Rattle.ffs_image.specs.{Device.Device, Known.{ForBytes, IsContents}}
use Rattle.ffs_report.specs.declared.fault.RunFault.{RunFault}
use Rattle.ffs_volume.specs.{declared.Layout.Layout, Blocks.{Owners.owners_of, BlockCheck.has_dup_lines}}
use Rattle.ffs_volume.specs.{Costs.RescanRuns.rescan_runs, Report.{Reads.sweep_reads, Whole.run_count}}
use Rattle.ffs_volume.specs.Costs.VolumeReads.{rescan_reads}
use Rattle.ffs_workspace.specs.{declared.workspace.Workspace.Workspace, Holds.HoldsBlockCheck, Ready.IsReady}
use Rattle.ffs_claims.specs.Phases.{IsLeftByPhase1}

-- the image gives the bytes, and the workspace is left by phase 1: `WithPhase1` and more
abbrev pub WithLeftByPhase1 : Layout → Device → Workspace → List ℕ → Type 0
WithLeftByPhase1 v d w bytes = IsContents d.contents bytes × IsLeftByPhase1 v bytes w

-- what `has_dups` and `runs` answer after a check of a workspace: whether phase 1 has a DUP line, and how
-- many Runs phases 1 and 1b looked at. Where phase 1b isn't run its count is as it was before
pub record HasAnswers (v : Layout) (bytes : List ℕ) (old new : Workspace) : Type 0 where
  pub has_dups : new.has_dups ≡ has_dup_lines v (owners_of v bytes)
  pub seen : new.runs_seen ≡ run_count v bytes
  pub again : new.runs_again ≡ (if has_dup_lines v (owners_of v bytes) then rescan_runs v bytes else old.runs_again)

-- what `has_dups` answers after a check that may have been cut short: what it answered before, or whether phase 1
-- has a DUP line
abbrev pub AnswersDups : Layout → List ℕ → (old new : Workspace) → Type 0
AnswersDups v bytes old new = (new.has_dups ≡ old.has_dups) ⊎ (new.has_dups ≡ has_dup_lines v (owners_of v bytes))

-- what a workspace holds and answers after `rescan`, which is phase 1b, if phase 1 has a DUP line, else nothing: what
-- `has_dups` answers and the count of phase 1's Runs stay, nothing is surveyed yet, and it is ready for the next phase
pub record RescanLeaves (v : Layout) (d d' : Device) (w w' : Workspace) (result : Result (Unit {0}) RunFault) : Type 0
  where
    pub holds : OnOk result (ForBytes (WithLeftByPhase1 v d w) (λ bytes. HoldsBlockCheck v bytes w'))
    pub answers : OnOk result (ForBytes (WithLeftByPhase1 v d w) (λ bytes. HasAnswers v bytes w w'))
    pub has_dups : w'.has_dups ≡ w.has_dups
    pub seen : w'.runs_seen ≡ w.runs_seen
    pub unsurveyed : OnOk result (ForBytes (WithLeftByPhase1 v d w) (λ bytes. w'.surveyed ≡ false))
    pub ready : IsReady v d' w'

-- no more reads than those of a sweep, and none where the image's bytes have no DUP line
pub record RescanReadsWithin (v : Layout) (d : Device) (w : Workspace) (before after : ℕ) : Type 0 where
  pub any : after ≤ before + sweep_reads v
  pub known : ForBytes (WithLeftByPhase1 v d w) (λ bytes. after ≤ before + rescan_reads v bytes)
