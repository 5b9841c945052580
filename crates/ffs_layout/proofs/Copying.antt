-- Copies of a superblock that are read, and faults of them.
use Rattle.std.{proofs.Common.{◌≡◌, ℕ, List, Option, Some, None, refl, ap}, specs.Prelude.unwrap_or}
use Rattle.ffs_volume.specs.{declared.{Layout.Layout, Order.Order}, Disk.{Outcome.super_sector, Superblock.layout_of}}
use Rattle.ffs_volume.specs.Disk.Superblock.{superblock_of}

-- where no sector is asked for, the superblock is read at that of the primary one
pub default_sector : (sector : Option ℕ) → unwrap_or sector 16 ≡ super_sector sector
default_sector None = refl
default_sector (Some sector) = refl

pub own_layout : (v : Layout) (order : Order) (bytes : List ℕ) → v ≡ layout_of order bytes →
    record (superblock_of order bytes) { layout = v } ≡ superblock_of order bytes
unfolding superblock_of
own_layout v order bytes e = ap (λ layout. record (superblock_of order bytes) { layout = layout }) e
