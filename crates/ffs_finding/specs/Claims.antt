-- What phase 1 leaves where it is run for the fragments that inodes claim, and what of that is asked for.
use Rattle.std.specs.Prelude.{◌≡◌, ℕ, List, None, Result, Ok, Err, slice_index}
use Rattle.ffs_image.specs.{Device.{Device, Faulted, ForContents}, Known.IsContents}
use Rattle.ffs_volume.specs.{declared.Layout.Layout, Blocks.Claims.all_claims, Encodings.{Kinds.kind_at, Notes.note_at}}
use Rattle.ffs_volume.specs.Report.Memory.{held_of}
use Rattle.ffs_maps.specs.Bits.{bits_of}
use Rattle.ffs_memory.specs.Account.{Account, Granted, GaveUp}
use Rattle.ffs_report.specs.{Sink.Sink, declared.fault.RunFault.TheVariants.{Read, Out}}
use Rattle.ffs_workspace.specs.{declared.workspace.Workspace.Workspace, Holds.HoldsPhase1, Ready.IsReady}
use Rattle.ffs_finding.specs.declared.find.FindFault.{FindFault, TheVariants.{Refused, Failed, NoMemory}}

-- an output that never fails, and of which nobody knows what it took
abbrev pub discarding : Sink
discarding = record { taken = None; failures = 0; holds = None }

-- a workspace holds which fragments are reserved or claimed, and of each inode its kind and what is noted of it. Phase
-- 1 leaves this, and it is a part of HoldsBlockCheck too: all phases after 1b keep it
pub record HoldsBlocks (v : Layout) (image : List ℕ) (w : Workspace) : Type 0 where
  pub used : bits_of w.used ≡ (all_claims v image).used
  pub kinds : (x : ℕ) → slice_index w.kinds.items x ≡ kind_at v image x
  pub notes : (x : ℕ) → slice_index w.notes.items x ≡ note_at v image x

-- the image gives the bytes, and the workspace holds that of them
abbrev pub WithBlocks : Layout → Device → Workspace → List ℕ → Type 0
WithBlocks v d w bytes = IsContents d.contents bytes × HoldsBlocks v bytes w

-- a workspace that holds what phase 1 leaves was made, a read failed in phase 1, or the memory was refused
abbrev pub TakesClaims : Layout → (d d' : Device) → (before after : Account) → Result Workspace FindFault → Type 0
TakesClaims v d d' before after (Ok w) =
    (d' ≡ d) × Granted before after (held_of v) × IsReady v d' w
    × ForContents d.contents (λ b. HoldsPhase1 v b w)
TakesClaims v d d' before after (Err (Refused fault)) = ⊥
TakesClaims v d d' before after (Err (Failed (Read fault))) =
    Faulted d d' fault.sector × Granted before after (held_of v)
TakesClaims v d d' before after (Err (Failed (Out fault))) = ⊥
TakesClaims v d d' before after (Err NoMemory) = (d' ≡ d) × GaveUp before after (held_of v)
