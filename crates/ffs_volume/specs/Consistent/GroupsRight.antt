-- When the counts and maps of groups are consistent.
use Rattle.std.specs.{Prelude.{◌≡◌, ℕ, ℤ, ◌<◌, Bool, true, ◌==◌, ◌&&◌, ◌||◌, nat_lt, not, List}, List.list_any}
use Rattle.ffs_volume.specs.declared.{Class.Class, Layout.Layout}
use Rattle.ffs_volume.specs.{Blocks.Owners.{Owner, all_steps, fragments_of}, Disk.Areas.is_reserved}
use Rattle.ffs_volume.specs.Groups.Records.{group_block, has_right_magic, has_right_maps, has_right_record}
use Rattle.ffs_volume.specs.Groups.Records.{has_right_sums, has_right_totals, maps_fit, summary_record}

-- f is free as a consistent volume has it: neither reserved nor in a Run
abbrev pub is_free_of_runs : Layout → List Owner → ℕ → Bool
is_free_of_runs v os f =
    nat_lt f v.size && not (is_reserved v f || list_any (λ g. g == f) (fragments_of (all_steps os)))

-- the group block and the summary record of group c are right
pub record IsGroupRight (v : Layout) (image : List ℕ) (free : ℕ → Bool) (class : ℕ → Class) (c : ℕ) : Type 0 where
  pub magic : has_right_magic v (group_block v image c) ≡ true
  pub places : maps_fit v (group_block v image c) ≡ true
  pub maps : has_right_maps v free class c (group_block v image c) ≡ true
  pub sums : has_right_sums v free class c (group_block v image c) ≡ true
  pub record_is : has_right_record v free class c (summary_record v image c) ≡ true

-- all groups are right, and so are the superblock's totals
pub record AreGroupsRight (v : Layout) (image : List ℕ) (totals : List ℤ) (free : ℕ → Bool) (class : ℕ → Class)
    : Type 0 where
  pub groups : (c : ℕ) → c < v.ncg → IsGroupRight v image free class c
  pub total : has_right_totals v free class totals ≡ true
