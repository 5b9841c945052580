-- Moments of the check of directories. Where no line is printed, it is `WorkMoment` of `ffs_workspace`: the image, how
-- often it was read by then, and the workspace.
use Rattle.std.specs.Prelude.{ℕ}
use Rattle.ffs_workspace.specs.Moments.{WorkMoment, work_moment}
use Rattle.ffs_image.specs.Device.{Device}
use Rattle.ffs_image.specs.declared.image.Image as image
use Rattle.ffs_report.specs.{Progress.{Progress, progress}, declared.report.Report.Report}
use Rattle.ffs_report.specs.declared.output.Output as output
use Rattle.ffs_names.specs.declared.chunks.Chunks.{Chunks}
use Rattle.ffs_workspace.specs.declared.workspace.{Windows.Windows, Workspace.Workspace}

-- a moment of printing lines: the image, its reads and the workspace at that time, how far the report has
-- come, and what is kept from one line to the next, as the texts of entries (`tt` where nothing is)
pub record LinesMoment (K : Type 0) : Type 0 where
  pub at : WorkMoment
  pub report : Progress
  pub kept : K

-- the moment at which an image, a workspace and a report are these. I and W are what their types give to
-- contracts as an Image and as an Output: in a contract I.Image and W.Output
abbrev pub lines_moment : {I W K : Type 0} → image.Ghosts I → output.Ghosts W → I → Workspace → Report W → K
    → LinesMoment K
lines_moment I W image w report kept =
    record { at = work_moment I image w; report = progress W.sink report; kept = kept }

-- a moment of a directory's second reading: the image, how often it was read by then, how many reads are
-- left, the windows, and how far its chunks are read
pub record SecondReadingMoment : Type 0 where
  pub image : Device
  pub reads : ℕ
  pub left : ℕ
  pub windows : Windows
  pub chunks : Chunks

abbrev pub second_moment : {I : Type 0} → image.Ghosts I → I → (left : ℕ) → Windows → Chunks → SecondReadingMoment
second_moment I image left windows chunks =
    record { image = I.device image; reads = I.reads image; left = left; windows = windows; chunks = chunks }
