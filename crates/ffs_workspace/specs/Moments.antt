-- A moment of work on a volume: what contracts say of the time before a call, and of that after it.
use Rattle.std.specs.Prelude.{ℕ}
use Rattle.ffs_image.specs.{Device.Device, declared.image.Image.Ghosts}
use Rattle.ffs_workspace.specs.declared.workspace.Workspace.{Workspace}

-- the image, how often it was read by then, and the workspace
pub record WorkMoment : Type 0 where
  pub image : Device
  pub reads : ℕ
  pub workspace : Workspace

-- the moment at which an image and a workspace are these. I is what the image's type gives to contracts: in a
-- contract I.Image
abbrev pub work_moment : {I : Type 0} → Ghosts I → I → Workspace → WorkMoment
work_moment I image w = record { image = I.device image; reads = I.reads image; workspace = w }
