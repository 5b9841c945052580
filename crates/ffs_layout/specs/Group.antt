-- The numbers of a group block.
use Rattle.std.specs.{Prelude.{ℕ, ◌+◌, ◌*◌, List, map}, List.range_with_len}
use Rattle.ffs_volume.specs.{declared.Order.Order, Disk.Numbers.{i32_at, u32_at}}
use Rattle.ffs_layout.specs.declared.group.{Group.Group, GroupSummary.GroupSummary}

-- the summary in the 16 bytes at a place
abbrev pub group_summary_at : Order → ℕ → List ℕ → GroupSummary
group_summary_at order place bytes = record {
  dirs = i32_at order place bytes;
  blocks = i32_at order (place + 4) bytes;
  inodes = i32_at order (place + 8) bytes;
  fragments = i32_at order (place + 12) bytes;
}

-- the numbers of a group block
abbrev pub group_of : Order → List ℕ → Group
group_of order bytes = record {
  magic = u32_at order 4 bytes;
  cgx = i32_at order 12 bytes;
  ndblk = i32_at order 20 bytes;
  cs = group_summary_at order 24 bytes;
  frsum = map (λ k. i32_at order (52 + 4 * k) bytes) (range_with_len 0 8);
  iusedoff = u32_at order 92 bytes;
  freeoff = u32_at order 96 bytes;
}
