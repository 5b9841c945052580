-- What a search leaves of a workspace: it is ready as it was.
use Rattle.std.proofs.Common.{◌≡◌, arith, Result, Ok, Err}
use Rattle.ffs_image.specs.Device.{Device}
use Rattle.ffs_volume.specs.declared.Layout.{Layout}
use Rattle.ffs_report.specs.{PhaseOutcome.ImageAfter, declared.fault.RunFault.{RunFault, TheVariants.{Read, Out}}}
use Rattle.ffs_walk.specs.declared.window.Window.{Window}
use Rattle.ffs_workspace.specs.{declared.workspace.Workspace.Workspace, Ready.IsReady}
use Rattle.ffs_finding.specs.LostMaps.{IsBlockWindow}

-- an image keeps its size
pub size_after : {T : Type 0} (d d' : Device) (r : Result T RunFault) → ImageAfter d d' r → d'.size ≡ d.size
size_after d d' (Ok x) p = grind arith
size_after d d' (Err (Read fault)) p = p.size
size_after d d' (Err (Out fault)) p = grind arith

-- a block was read into a window
pub block_read : (v : Layout) (d d' : Device) (w : Workspace) (window : Window) → d'.size ≡ d.size → IsReady v d w →
    IsBlockWindow v d' window → IsReady v d' (record w { windows = record w.windows { current = window } })
block_read v d d' w window size ready read = grind arith
