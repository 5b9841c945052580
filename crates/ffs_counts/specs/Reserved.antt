-- The reserved fragments in a map of the fragments in use.
use Rattle.std.specs.{List.range_with_len, Prelude.{◌≡◌, ◌<◌, ℕ, Bool, true, not, ◌&&◌, List, count_by}}
use Rattle.ffs_volume.specs.{declared.Layout.Layout, Disk.Areas.is_reserved, Blocks.Claims.is_set}

-- the bit of each reserved fragment is set
abbrev pub HasReserved : Layout → List Bool → Type 0
HasReserved v used = (f : ℕ) → f < v.size → is_reserved v f ≡ true → is_set used f ≡ true

-- how many fragments are claimed; reserved ones don't count
abbrev pub claimed_in : Layout → List Bool → ℕ
claimed_in v used = count_by (λ f. is_set used f && not (is_reserved v f)) (range_with_len 0 v.size)
