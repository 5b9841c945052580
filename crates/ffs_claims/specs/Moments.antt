-- Moments of the block check. A contract compares the one before a call with the one after it.
use Rattle.std.specs.Prelude.{ℕ, ◌+◌}
use Rattle.ffs_image.specs.Device.{Device}
use Rattle.ffs_image.specs.declared.image.Image as image
use Rattle.ffs_report.specs.{Progress.{Progress, progress}, declared.report.Report.Report}
use Rattle.ffs_report.specs.declared.output.Output as output
use Rattle.ffs_workspace.specs.declared.workspace.Workspace.{Workspace}

-- a moment of a claim: the workspace, and how far the report has come
pub record ClaimMoment : Type 0 where
  pub workspace : Workspace
  pub report : Progress

-- the moment at which a workspace and a report are these. W is what the output's type gives to contracts
-- as an Output: in a contract W.Output
abbrev pub claim_moment : {W : Type 0} → output.Ghosts W → Workspace → Report W → ClaimMoment
claim_moment W workspace report = record { workspace = workspace; report = progress W.sink report }

-- a moment of a phase, with all that it works on: the image, how often it was read by then, the
-- workspace, and how far the report has come
pub record PhaseMoment : Type 0 where
  pub image : Device
  pub reads : ℕ
  pub workspace : Workspace
  pub report : Progress

-- the moment at which an image, a workspace and a report are these: in a contract I.Image and W.Output
abbrev pub phase_moment : {I W : Type 0} → image.Ghosts I → output.Ghosts W → I → Workspace → Report W → PhaseMoment
phase_moment I W image workspace report = record {
  image = I.device image;
  reads = I.reads image;
  workspace = workspace;
  report = progress W.sink report;
}

-- what a claim works on at a moment of a phase
abbrev pub claim_at : PhaseMoment → ClaimMoment
claim_at moment = record { workspace = moment.workspace; report = moment.report }

-- the moment after one more read
abbrev pub after_one_read : PhaseMoment → PhaseMoment
after_one_read moment = record moment { reads = moment.reads + 1 }
