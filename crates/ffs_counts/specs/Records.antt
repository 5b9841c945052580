-- The summary records that are read at a time, and the records of a group.
use Rattle.std.specs.{List.slice_range, Prelude.{ℕ, ◌≡◌, ◌+◌, ◌-◌, ◌*◌, ◌%◌, ◌<◌, ◌≤◌, List, Option, Result, IfOk, OnOk, min}}
use Rattle.std.specs.Prelude.{◌/◌, ◌⊎◌, IfErr}
use Rattle.ffs_image.specs.{Device.{Device, ForContents}, Reads.{ReadAfter, ReadsAtMostOnce}, declared.ImageFault.ImageFault}
use Rattle.ffs_volume.specs.{declared.{constants.TheConstants.{CSUM_SIZE, DEV_BSIZE}, Layout.Layout}}
use Rattle.ffs_volume.specs.Disk.Areas.{group_place, summary_place}
use Rattle.ffs_volume.specs.{Groups.{GroupCheck.group_lines, Records.summary_record}, Report.Reads.records_at_once}
use Rattle.ffs_walk.specs.{Windows.{FailsAt, held_bytes}, declared.window.Window.Window}
use Rattle.ffs_maps.specs.Bits.{bits_of}
use Rattle.ffs_groups.specs.{Check.{AreCounts, lines_of}, Free.free_in, Inodes.class_in}
use Rattle.ffs_groups.specs.declared.{check.GroupFindings.GroupFindings, counts.Counts.Counts}
use Rattle.ffs_workspace.specs.{Tables.{CanReadInodes, TableAfter}, declared.table.Table.Table}
use Rattle.ffs_workspace.specs.{Ready.CanRead, declared.workspace.Workspace.Workspace}

-- the first of the groups whose records are read with that of group c
abbrev pub first_read : ℕ → ℕ
first_read c = c - c % records_at_once

-- how many records are read from group n on: those that are read at once, or all that are left
abbrev pub records_read : Layout → ℕ → ℕ
records_read v n = min records_at_once (v.ncg - n)

-- the block of group c begins in this sector, or the records begin there that are read with that of the group
abbrev pub IsSectorOf : Layout → (c sector : ℕ) → Type 0
IsSectorOf v c sector =
    (sector ≡ group_place v c / DEV_BSIZE) ⊎ (sector ≡ summary_place v (first_read c) / DEV_BSIZE)

-- the block of some group, or the summary records that are read with its own, begin in this sector
abbrev pub IsGroupSector : Layout → (sector : ℕ) → Type 0
IsGroupSector v sector = (c : ℕ) × (c < v.ncg) × IsSectorOf v c sector

-- a window is at the records that are read with that of group c, and at nothing else
pub record IsAtRecords (v : Layout) (w : Window) (c : ℕ) : Type 0 where
  pub starts : w.place ≡ summary_place v (first_read c)
  pub length : w.length ≡ CSUM_SIZE * records_read v (first_read c)

-- a window holds the records that are read with that of group c, which is at this place, and nothing else
pub record HoldsRecord (v : Layout) (contents : Option (List ℕ)) (w : Window) (c at : ℕ) : Type 0 where
  pub records : IsAtRecords v w c
  pub inside : at + CSUM_SIZE ≤ w.length
  pub bytes : ForContents contents
      (λ b. slice_range (held_bytes w) at (at + CSUM_SIZE) ≡ summary_record v b c)

-- the volume has a group c, and the table can be read into
pub record CanReadRecord (v : Layout) (d : Device) (c : ℕ) (t : Table) : Type 0 where
  pub group : c < v.ncg
  pub ready : CanReadInodes v d t

-- the record of group c was read with those round it. The answer is where it is in the table's window
pub record ReadsRecord (v : Layout) (d d' : Device) (c : ℕ) (t : Table) (result : Result ℕ ImageFault) : Type 0 where
  pub there : IfOk result (HoldsRecord v d.contents t.window c)
  pub leaves : TableAfter v d d' t result
  pub sector : FailsAt (summary_place v (first_read c)) result

-- the records that are read with that of group c take one read at most, and none where a window has them
pub record AreReadOnce (v : Layout) (w : Window) (c : ℕ) (before after : ℕ) : Type 0 where
  pub counted : after ≤ before + 1
  pub again : IsAtRecords v w c → after ≤ before

-- the records that are read with that of group c were asked for, once at most, and nothing else
abbrev pub AsksForRecords : {I : Type 0} → (was_read : I → ℕ → ℕ → I → Type 0) → Layout → (c : ℕ) → (old new : I) → Type 0
AsksForRecords was_read v c old new =
    ReadsAtMostOnce was_read (summary_place v (first_read c)) (CSUM_SIZE * records_read v (first_read c)) old new

-- the records that are read with that of group c were asked for, and then the block of group c, each once at most, and
-- nothing else
pub record AsksForGroup {I : Type 0} (was_read : I → ℕ → ℕ → I → Type 0) (v : Layout) (c : ℕ) (old new : I) : Type 0
  where
    pub between : I
    pub records : AsksForRecords was_read v c old between
    pub block : ReadsAtMostOnce was_read (group_place v c) v.cgsize between new

-- the records of group c can be read, and these are its counts by what the workspace holds
pub record CanReadGroup (v : Layout) (d : Device) (w : Workspace) (c : ℕ) (right : Counts) : Type 0 where
  pub group : c < v.ncg
  pub counts : AreCounts v (free_in (bits_of w.used) v.size) (class_in w.kinds.items) c right
  pub ready : CanRead v d w

-- the block of group c and its summary record were read into the windows of a workspace: what is found in
-- them gives the lines of the group by the image's bytes, and by what the workspace holds
pub record GroupIsRead (v : Layout) (d d' : Device) (w : Workspace) (c : ℕ) (result : Result GroupFindings ImageFault) :
    Type 0 where
  pub lines : IfOk result (λ f. ForContents d.contents
      (λ b. lines_of f c ≡ group_lines v b (free_in (bits_of w.used) v.size) (class_in w.kinds.items) c))
  pub read : ReadAfter d d' result
  pub sector : IfErr result (λ fault. IsSectorOf v c fault.sector)
  pub records : OnOk result (IsAtRecords v w.windows.table.window c)
