-- What the laws on blocks and groups say, for an image.
use Rattle.std.specs.Prelude.{◌≡◌, ◌↔◌, ℕ, ℤ, true, ◌||◌, List, [], ◌++◌}
use Rattle.ffs_volume.specs.{declared.Layout.Layout, Disk.Areas.{is_fragment_in_range, is_reserved}}
use Rattle.ffs_volume.specs.Blocks.{Owners.{Owner, owners_of}, Claims.{is_set, no_claims, after_owners}}
use Rattle.ffs_volume.specs.Blocks.{KeptOffers.kept_in_owners, BlockCheck.{phase1_lines, phase1b_lines}}
use Rattle.ffs_volume.specs.Consistent.{BlocksRight.BlocksRight, GroupsRight.AreGroupsRight}
use Rattle.ffs_volume.specs.{Groups.GroupCheck.{phase5_lines, is_free_of_kept}, Consistent.GroupsRight.is_free_of_runs}
use Rattle.ffs_volume.specs.Blocks.KeptByRule.{all_offers, is_claimed_before, verdicts, kept_by_rule}
use Rattle.ffs_volume.specs.Directories.Volumes.{class_at}

-- no line of phases 1, 1b and 5 exactly where blocks and groups are right
abbrev pub BlocksAndGroups : Type 0
BlocksAndGroups = (v : Layout) (image : List ℕ) (totals : List ℤ) →
    ((phase1_lines v (owners_of v image) ++ phase1b_lines v (owners_of v image))
    ++ phase5_lines v image totals (is_free_of_kept v (owners_of v image)) (class_at v image) ≡ [])
    ↔ (BlocksRight v (owners_of v image)
    × AreGroupsRight v image totals (is_free_of_runs v (owners_of v image)) (class_at v image))

-- the fold keeps what the rule keeps: the offers in order, and so the fragments
pub record KeepsByRule (v : Layout) (os : List Owner) : Type 0 where
  pub offers : kept_in_owners v (no_claims v) os ≡ kept_by_rule v [] (all_offers v os)
  pub used : (f : ℕ) → is_fragment_in_range v f ≡ true →
      is_set (after_owners v (no_claims v) os).used f
      ≡ (is_reserved v f || is_claimed_before (verdicts v [] (all_offers v os)) f)

-- the fold's keeping is the rule's
abbrev pub KeepingByRule : Type 0
KeepingByRule = (v : Layout) (image : List ℕ) → KeepsByRule v (owners_of v image)
