-- A layout that is accepted in an image, and where its groups begin.
use Rattle.std.specs.Prelude.{◌≡◌, ◌*◌, ◌<◌, ◌≤◌, ℕ, None}
use Rattle.ffs_volume.specs.{declared.Layout.Layout, Disk.{Areas.{cgbase, cgdmin}, Outcome.layout_fault}}

-- the layout that is taken is this one; it shows no fault in an image of this size, so its volume
-- lies within the image
pub record IsAccepted (v : Layout) (image_size : ℕ) (taken : Layout) : Type 0 where
  pub fault : layout_fault v image_size ≡ None
  pub layout : taken ≡ v
  pub in_image : taken.size * taken.fsize ≤ image_size

-- this is the first fragment of a group, and lies in the volume
pub record IsGroupBase (v : Layout) (group fragment : ℕ) : Type 0 where
  pub value : fragment ≡ cgbase v group
  pub below : fragment < v.size

-- this is the first fragment for data after a group's inodes, at the volume's end at the latest
pub record IsDataStart (v : Layout) (group fragment : ℕ) : Type 0 where
  pub value : fragment ≡ cgdmin v group
  pub below : fragment ≤ v.size
