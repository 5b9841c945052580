-- The sums of the groups' counts.
use Rattle.std.specs.{Prelude.{ℕ, ◌≡◌, ◌≤◌, ◌*◌, ◌+◌, Bool}, List.{range_with_len, sum_by}}
use Rattle.ffs_volume.specs.{declared.{Layout.Layout, Class.Class}, Groups.Records.{GroupCounts, right_group_counts}}
use Rattle.ffs_groups.specs.declared.counts.SummaryCounts.{SummaryCounts}
use Rattle.ffs_counts.specs.declared.totals.Totals.{Totals}

-- the four sums
abbrev pub total_of : Totals → GroupCounts
total_of t = record { dirs = t.dirs; blocks = t.blocks; inodes = t.inodes; fragments = t.fragments }

-- the counts of one group more
abbrev pub with_counts : Totals → SummaryCounts → Totals
with_counts t s = record {
  dirs = t.dirs + s.dirs;
  blocks = t.blocks + s.blocks;
  inodes = t.inodes + s.inodes;
  fragments = t.fragments + s.fragments;
}

-- the sums of the right counts of the first n groups
pub record AreTotals (v : Layout) (free : ℕ → Bool) (class : ℕ → Class) (n : ℕ) (t : Totals) : Type 0 where
  pub dirs : t.dirs ≡ sum_by (λ c. (right_group_counts v free class c).dirs) (range_with_len 0 n)
  pub blocks : t.blocks ≡ sum_by (λ c. (right_group_counts v free class c).blocks) (range_with_len 0 n)
  pub inodes : t.inodes ≡ sum_by (λ c. (right_group_counts v free class c).inodes) (range_with_len 0 n)
  pub fragments : t.fragments ≡ sum_by (λ c. (right_group_counts v free class c).fragments) (range_with_len 0 n)

-- n counts below 2^32 were added to each
pub record AreSumsOf (n : ℕ) (t : Totals) : Type 0 where
  pub dirs : t.dirs ≤ n * 4294967295
  pub blocks : t.blocks ≤ n * 4294967295
  pub inodes : t.inodes ≤ n * 4294967295
  pub fragments : t.fragments ≤ n * 4294967295
