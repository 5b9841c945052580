-- The reserved fragments of a volume.
use Rattle.std.specs.Prelude.{◌≡◌, ◌⊎◌, ◌+◌, ◌<◌, ◌≤◌, ℕ, Bool, true, false, List, ◌&&◌, ◌||◌, nat_le, nat_lt, map}
use Rattle.std.specs.List.{range_with_len, slice_index_or}
use Rattle.ffs_volume.specs.{declared.Layout.Layout, Disk.Areas.{cgbase, is_reserved}}
use Rattle.ffs_maps.specs.declared.reserved.Stretch.{Stretch}

-- the reserved fragments of group c are those from `start` on and below `end`
pub record IsReservedRun (v : Layout) (c start end : ℕ) : Type 0 where
  pub above : cgbase v c ≤ start
  pub order : start ≤ end
  pub within_group : end ≤ cgbase v (c + 1)
  pub within_size : end ≤ v.size
  pub inside : (f : ℕ) → start ≤ f → f < end → is_reserved v f ≡ true
  pub outside : (f : ℕ) → cgbase v c ≤ f → f < cgbase v (c + 1) → (f < start) ⊎ (end ≤ f) → is_reserved v f ≡ false

-- the fragments from this one to before the stretch's end are all reserved, or none of them is, as
-- the stretch says
pub record IsStretch (v : Layout) (fragment : ℕ) (stretch : Stretch) : Type 0 where
  pub some : fragment < stretch.end
  pub within : stretch.end ≤ v.size
  pub alike : (f : ℕ) → fragment ≤ f → f < stretch.end → is_reserved v f ≡ stretch.reserved

-- the bits of a map with those of the reserved fragments set
unfoldable pub with_reserved : Layout → List Bool → List Bool
with_reserved v bits = map (λ f. is_reserved v f || slice_index_or bits f false) (range_with_len 0 v.size)

-- k lies from `start` on and below `end`
abbrev pub is_between : (start end k : ℕ) → Bool
is_between start end k = nat_le start k && nat_lt k end
