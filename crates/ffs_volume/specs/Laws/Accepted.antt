-- An accepted superblock has a valid layout, whose fragments lie in the image.
use Rattle.std.proofs.Common.{◌≡◌, ℕ, ◌*◌, ◌≤◌, List, length, Option, Ok}
use Rattle.ffs_volume.specs.{declared.Layout.Layout, Disk.{Superblock.Superblock, Outcome.outcome}}
use Rattle.ffs_volume.specs.Laws.Geometry.{IsAcceptedLayout}

-- a valid layout, of a volume that lies in an image of this size
pub record FitsImage (v : Layout) (size : ℕ) : Type 0 where
  pub geometry : IsAcceptedLayout v
  pub inside : v.size * v.fsize ≤ size

-- the layout of each accepted superblock is so
abbrev pub AcceptedFit : Type 0
AcceptedFit = (image : List ℕ) (sector : Option ℕ) (s : Superblock) → outcome image sector ≡ Ok s
    → FitsImage s.layout (length image)
