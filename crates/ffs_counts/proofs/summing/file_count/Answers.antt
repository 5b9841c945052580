use Rattle.std.proofs.Common.{arith, ℕ, List, ◌≡◌, ◌<◌, ◌≤◌, ◌+◌, ◌^◌}
use Rattle.ffs_maps.proofs.Counting.{count_join_at, count_within}
use Rattle.ffs_counts.specs.Summing.{files_among}
use Rattle.ffs_counts.proofs.summing.file_count.Goals as goal

-- some inodes, and those after them
files_join : (kinds : List ℕ) (mid end files few x : ℕ) → files ≡ files_among kinds 2 mid → few ≡ files_among kinds mid end →
    2 ≤ mid → mid ≤ end → x ≡ few → files + x ≡ files_among kinds 2 end
files_join kinds mid end files few x one two low high same = grind (arith, count_join_at)

files_fit : (kinds : List ℕ) (end files : ℕ) → files ≡ files_among kinds 2 end → end < 2 ^ 32 → files < 2 ^ 32
files_fit kinds end files is few = grind (arith, count_within)

pub overflow_add-files : goal.overflow_add-files
overflow_add-files c =
    let all = files_join c.args.kinds.now c.loop-inode.inode c.min-next.result c.loop-inode.files c.few_files.result
    c.from-files.result c.loop-inode.invariant.files c.few_files.ensures c.loop-inode.invariant.above
    (omega (arith, c.min-next.ensures, c.loop-inode-test.true)) c.from-files.ensures in
    omega (
      arith,
      files_fit c.args.kinds.now c.min-next.result (c.loop-inode.files + c.from-files.result) all
          (omega (arith, c.min-next.ensures, c.requires)),
    )

pub loop-inode-preserved : goal.loop-inode-preserved
loop-inode-preserved c = record {
  files = files_join c.args.kinds.now c.loop-inode.inode c.min-next.result c.loop-inode.files c.few_files.result
      c.from-files.result c.loop-inode.invariant.files c.few_files.ensures c.loop-inode.invariant.above
      (omega (arith, c.min-next.ensures, c.loop-inode-test.true)) c.from-files.ensures;
  above = omega (arith, c.min-next.ensures, c.loop-inode.invariant.above, c.loop-inode-test.true);
  within = omega (arith, c.min-next.ensures);
}
