-- The numbers of a group block, by the bits of signed numbers.
use Rattle.std.proofs.Common.{◌≡◌, ◌==◌, ℕ, ◌<◌, ◌^◌, List, slice_index, ◌+◌, arith, ◌*◌, Bool, map, ◌&&◌}
use Rattle.std.{proofs.lemmas.List.get_or-drop, specs.List.range_with_len}
use Rattle.ffs_volume.specs.{declared.{Order.Order, Layout.Layout, Class.Class}, Groups.Records.right_group_counts}
use Rattle.ffs_volume.specs.{Groups.Records.{group_size, has_right_sums}, Disk.Numbers.{i32_at, u32_at, number}}
use Rattle.ffs_volume.specs.Disk.Numbers.{all_below}
use Rattle.ffs_layout.specs.Group.{group_summary_at}
use Rattle.ffs_groups.specs.declared.{counts.Counts.Counts, free.FreeSpace.FreeSpace, inodes.InodeCounts.InodeCounts}
use Rattle.ffs_groups.specs.{Check.{has_bits_of, AreCounts, same_counts, same_frsum_at}, Free.AreFreeCounts}
use Rattle.ffs_groups.{specs.Inodes.AreInodeCounts, proofs.MapWords.same_below}

-- four bytes
in_word : (order : Order) (place : ℕ) (bytes : List ℕ) → ((k : ℕ) → slice_index bytes k < 256) →
    u32_at order place bytes < 2 ^ 32
unfolding u32_at number
in_word order place bytes h = grind (arith, get_or-drop)

pub bits_are : (order : Order) (place : ℕ) (bytes : List ℕ) (n : ℕ) → ((k : ℕ) → slice_index bytes k < 256) →
    has_bits_of (i32_at order place bytes) n ≡ (u32_at order place bytes == n)
unfolding i32_at has_bits_of
bits_are order place bytes n h = grind (arith, in_word)

stretch_as : (v : Layout) (block : List ℕ) (frsum : List ℕ) (k : ℕ) → ((k : ℕ) → slice_index block k < 256) → k < 8 →
    same_frsum_at (map (λ j. i32_at v.order (52 + 4 * j) block) (range_with_len 0 8)) frsum k ≡
    (u32_at v.order (52 + 4 * k) block == slice_index frsum k)
stretch_as v block frsum k h l = grind (arith, bits_are)

pub sums_as : (v : Layout) (free : ℕ → Bool) (class : ℕ → Class) (c : ℕ) (block : List ℕ) (counts : Counts) →
    ((k : ℕ) → slice_index block k < 256) → AreCounts v free class c counts →
    (has_bits_of (i32_at v.order 12 block) c && (has_bits_of (i32_at v.order 20 block) (group_size v c)
    && (same_counts (group_summary_at v.order 24 block) counts.summary
    && all_below 8 (λ k. same_frsum_at (map (λ j. i32_at v.order (52 + 4 * j) block) (range_with_len 0 8))
    counts.frsum k))))
    ≡ has_right_sums v free class c block
unfolding has_right_sums
sums_as v free class c block counts h right = grind (arith, bits_are, same_below, stretch_as)

-- counts of fragments and of inodes are the counts of a group
pub are_counts : (v : Layout) (free : ℕ → Bool) (class : ℕ → Class) (c : ℕ) (f : FreeSpace) (i : InodeCounts) →
    AreFreeCounts v free c f → AreInodeCounts v class c i →
    AreCounts v free class c (record {
      summary = record { dirs = i.dirs; blocks = f.blocks; inodes = i.free; fragments = f.fragments };
      frsum = f.frsum;
    })
unfolding right_group_counts
are_counts v free class c f i fragments inodes = record { summary = cc; frsum = fragments.frsum }
