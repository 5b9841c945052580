-- A moment of the work on an image: what contracts say of the time before a call, and of that after it.
use Rattle.std.specs.Prelude.{ℕ}
use Rattle.ffs_image.specs.Device.{Device}
use Rattle.ffs_image.specs.declared.image.Image as image_trait
use Rattle.ffs_report.specs.{Sink.Sink, Progress.{Progress, progress}, declared.report.Report.Report}
use Rattle.ffs_report.specs.declared.output.Output as output_trait

-- the image, how often it was read by then, and the output
pub record Moment : Type 0 where
  pub image : Device
  pub reads : ℕ
  pub out : Sink

-- the moment at which an image and an output are these. I and W are what their types give to contracts as
-- an Image and as an Output: in a contract I.Image and W.Output
abbrev pub moment : {I W : Type 0} → image_trait.Ghosts I → output_trait.Ghosts W → I → W → Moment
moment I W image out = record { image = I.device image; reads = I.reads image; out = W.sink out }

-- the same of a check under way: how far its report has come, in place of the output alone
pub record ReportMoment : Type 0 where
  pub image : Device
  pub reads : ℕ
  pub report : Progress

-- the moment at which an image and a report are these
abbrev pub report_moment : {I W : Type 0} → image_trait.Ghosts I → output_trait.Ghosts W → I → Report W → ReportMoment
report_moment I W image report =
    record { image = I.device image; reads = I.reads image; report = progress W.sink report }

-- a moment of a report is one of its output
abbrev pub at_output : ReportMoment → Moment
at_output m = record { image = m.image; reads = m.reads; out = m.report.sink }
