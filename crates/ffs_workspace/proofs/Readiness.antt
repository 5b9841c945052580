-- A workspace stays ready, and its windows hold what the image gives.
use Rattle.std.proofs.Common.{arith, ◌≡◌}
use Rattle.ffs_volume.specs.declared.Layout.{Layout}
use Rattle.ffs_image.specs.Device.{Device}
use Rattle.ffs_workspace.specs.{declared.{table.Table.Table, workspace.Workspace.Workspace}, Ready.{CanRead}}
use Rattle.ffs_workspace.specs.Tables.{TableHolds}

-- where a block of the inode table was read
pub can_read_table : (v : Layout) (d d' : Device) (w : Workspace) (t : Table) → d'.contents ≡ d.contents →
    d'.size ≡ d.size → TableHolds v d'.contents t → CanRead v d w →
    CanRead v d' (record w { windows = record w.windows { table = t } })
can_read_table v d d' w t e size kept r = grind arith

-- for another image of the same bytes
pub can_read_same : (v : Layout) (d d' : Device) (w : Workspace) → d'.contents ≡ d.contents → d'.size ≡ d.size →
    CanRead v d w → CanRead v d' w
can_read_same v d d' w e size r = grind arith
