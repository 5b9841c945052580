use Rattle.std.proofs.Common.{◌≡◌, ℕ, ◌+◌, ◌-◌, ◌*◌, ◌<◌, ◌≤◌, ◌^◌, true, List, length, take, drop, All, sum_by}
use Rattle.ffs_survey.specs.Discover.{Extends, IsReachedDir, from_dirs, unset, count_of, any_of}
use Rattle.ffs_survey.{specs.{Calm.{AreCalm, AreUnread}, Survey.{bool_at, graph_with, number_at}}, proofs.Lending.StillLent}
use Rattle.ffs_survey.proofs.{ReadOnce.IsReadTo, Remaining.{Counts, SameResult}}
use Rattle.ffs_survey.proofs.discover.read_level.Given as goal

abbrev pub invariant-loop-at : goal.invariant-loop-at
invariant-loop-at g l =
    let old = l.fn.lists in
    let over = g.D.Directories.base l.fn.directories in
    let knows = g.D.Directories.knows over in
    let cost = g.D.Directories.cost over in
    let graph = λ (b : List ℕ). graph_with old.kinds.now (g.D.Directories.entries over b) in
    let level = take l.high old.queue.now.items in
    record {
      lent : StillLent g.D.Directories l.fn.directories l.directories old l.lists;
      reads : (b : List ℕ) → knows b → g.D.Directories.reads l.directories + sum_by (cost b) (drop l.at level)
          ≤ g.D.Directories.reads l.fn.directories + sum_by (cost b) (drop l.low level);
      from : l.low ≤ l.at;
      extends : Extends l.high l.top old.queue.now.items l.lists.queue.now.items;
      grown : (x : ℕ) → x < length old.kinds.now → number_at l.lists.references.now.items x
          ≤ number_at old.references.now.items x + (l.at - l.low) * 2 ^ 28;
      top : l.top + unset l.lists.reached.now.items ≡ l.high + unset old.reached.now.items;
      same_result : (b : List ℕ) → knows b → SameResult (from_dirs (graph b) (drop l.low level)) old.reached.now.items
          old.parents.now.items level (from_dirs (graph b) (drop l.at level)) l.lists.reached.now.items
          l.lists.parents.now.items (take l.top l.lists.queue.now.items);
      counts : (b : List ℕ) → knows b → Counts (length old.kinds.now) (count_of (graph b) (drop l.low level))
          (any_of (graph b) (drop l.low level)) old.references.now.items old.named.now.items
          (count_of (graph b) (drop l.at level)) (any_of (graph b) (drop l.at level))
          l.lists.references.now.items l.lists.named.now.items;
      still : (b : List ℕ) → knows b → All (IsReachedDir old.kinds.now l.lists.reached.now.items) (drop l.low level);
      calm : (b : List ℕ) → knows b → AreCalm old.kinds.now old.marked.now.items old.reached.now.items old.parents.now.items
          (g.D.Directories.entries over b) (g.D.Directories.right_shape over b) old.calm.now.items →
          AreCalm old.kinds.now old.marked.now.items l.lists.reached.now.items l.lists.parents.now.items
          (g.D.Directories.entries over b) (g.D.Directories.right_shape over b) l.lists.calm.now.items;
      kept : (b : List ℕ) → knows b → (x : ℕ) → bool_at old.calm.now.items x ≡ true → bool_at l.lists.calm.now.items x ≡ true;
      once : (b : List ℕ) → knows b → AreUnread old.reached.now.items old.parents.now.items (drop l.low level) →
          IsReadTo old.kinds.now old.marked.now.items l.lists.reached.now.items l.lists.parents.now.items
          (g.D.Directories.entries over b) (g.D.Directories.right_shape over b) l.lists.calm.now.items level l.low l.at;
    }
