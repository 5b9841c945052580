-- The map of fragments in a group block.
use Rattle.std.specs.{Prelude.{◌≡◌, ◌+◌, ◌≤◌, ℕ, true, false, List, Option, Some, None}, Int.div_ceil}
use Rattle.ffs_volume.specs.{declared.Layout.Layout, Groups.Records.fragment_map_place, Find.Lost.has_map}

-- where the map of fragments begins in a block, if it has one
abbrev pub IsMapPlace : Layout → List ℕ → Option ℕ → Type 0
IsMapPlace v block (Some place) =
    (has_map v block ≡ true) × (place ≡ fragment_map_place v block) × (place + div_ceil v.fpg 8 ≤ v.cgsize)
IsMapPlace v block None = has_map v block ≡ false
