use Rattle.std.proofs.Common.{arith, refl, ℕ, ◌≡◌, ◌<◌, ◌≤◌, ◌+◌, ◌-◌, ◌*◌, ◌^◌, max}
use Rattle.ffs_volume.specs.declared.Class.{Class}
use Rattle.ffs_maps.proofs.Counting.{count_join_at, count_within}
use Rattle.ffs_groups.{specs.Inodes.{AreCounted, class_in}, proofs.Sums.count_from_two}
use Rattle.ffs_groups.proofs.inodes.inode_counts.Goals as goal

-- some inodes, and those after them
counted_join : (class : ℕ → Class) (a mid end d f e g x y : ℕ) → AreCounted class a mid d f →
    AreCounted class mid end e g → a ≤ mid → mid ≤ end → x ≡ e → y ≡ g → AreCounted class a end (d + x) (f + y)
counted_join class a mid end d f e g x y one two low high dirs free = grind (arith, count_join_at)

counted_fit : (class : ℕ → Class) (a end d f limit : ℕ) → AreCounted class a end d f → end - a < limit →
    (d < limit) × (f < limit)
counted_fit class a end d f limit counted few = grind (arith, count_within)

pub overflow_add-counts : goal.overflow_add-counts
overflow_add-counts c =
    let start = max (c.args.group * c.args.geometry.now.layout.ipg) 2 in
    let all = counted_join (class_in c.args.kinds.now) start c.loop-inode.inode c.min-next.result _ _ _ _
    c.from.result _ c.loop-inode.invariant.counted c.few_counts-few.ensures c.loop-inode.invariant.above
    (omega (arith, c.min-next.ensures, c.loop-inode-test.true)) c.from.ensures refl in
    omega (arith, (counted_fit _ start c.min-next.result _ _ (2 ^ 32) all (omega (arith, c.min-next.ensures))).0)

pub overflow_add-counts-in-loop-inode : goal.overflow_add-counts-in-loop-inode
overflow_add-counts-in-loop-inode c =
    let start = max (c.args.group * c.args.geometry.now.layout.ipg) 2 in
    let all = counted_join (class_in c.args.kinds.now) start c.loop-inode.inode c.min-next.result _ _ _ _ c.from.result
    c.from-in-loop-inode.result
    c.loop-inode.invariant.counted c.few_counts-few.ensures c.loop-inode.invariant.above
    (omega (arith, c.min-next.ensures, c.loop-inode-test.true)) c.from.ensures c.from-in-loop-inode.ensures in
    omega (arith, (counted_fit _ start c.min-next.result _ _ (2 ^ 32) all (omega (arith, c.min-next.ensures))).1)

pub loop-inode-preserved : goal.loop-inode-preserved
loop-inode-preserved c =
    let start = max (c.args.group * c.args.geometry.now.layout.ipg) 2 in
    record {
      counted = counted_join (class_in c.args.kinds.now) start c.loop-inode.inode c.min-next.result _ _ _ _
          c.from.result c.from-in-loop-inode.result c.loop-inode.invariant.counted c.few_counts-few.ensures
          c.loop-inode.invariant.above (omega (arith, c.min-next.ensures, c.loop-inode-test.true))
          c.from.ensures c.from-in-loop-inode.ensures;
      above = omega (arith, c.min-next.ensures, c.loop-inode.invariant.above, c.loop-inode-test.true);
      within = omega (arith, c.min-next.ensures);
    }

pub returns : goal.returns
returns c = grind (arith, count_from_two)
