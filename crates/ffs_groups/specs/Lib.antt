-- What the contracts on cylinder groups cite. What is right of a group is in the book (`Groups/Records` of
-- ffs_volume). The public calls, what their clauses are, and in which files:
--
--   group_counts                AreCounts (`Check`)
--   compare_group               AreFound (`Check`)
--   group_fragments             IsGroupSize (`Inputs`)
--   all_or_none_allocated       in words of its own, with class_in (`Inodes`)
--   same_fragment_map           has_bits of the book
--
-- `Inputs` says what a group is counted from. `Free` is about what the free fragments of blocks add to its counts,
-- `Inodes` about what its inodes add. `Check`, on these three, is about all counts, and about what is found in the
-- records; `MapParts` is about the words of a map that are compared at a time.
pub mod Inputs
pub mod Free
pub mod Inodes
pub mod Check
pub mod MapParts
