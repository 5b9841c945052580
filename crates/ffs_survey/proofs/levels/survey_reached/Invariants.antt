use Rattle.std.proofs.Common.{ℕ, ◌+◌, ◌<◌, ◌≤◌, ◌-◌, List, length, take, sum_by}
use Rattle.ffs_survey.specs.{Discover.IsCount, Calm.{dir_by, AreCalm, IsReadOnce}, Survey.{graph_with, number_at}}
use Rattle.ffs_survey.proofs.{NextLevel.{HasRoomForLevel, AtSomeLevel}, Lending.StillLent}
use Rattle.ffs_survey.proofs.levels.survey_reached.Given as goal

abbrev pub invariant-loop-low : goal.invariant-loop-low
invariant-loop-low g l =
    let old = l.fn.lists in
    let over = g.D.Directories.base l.fn.directories in
    let knows = g.D.Directories.knows over in
    let graph = λ (b : List ℕ). graph_with old.kinds.now (g.D.Directories.entries over b) in
    record {
      lent : StillLent g.D.Directories l.fn.directories l.directories old l.lists;
      reads : (b : List ℕ) → knows b → g.D.Directories.reads l.directories ≤ g.D.Directories.reads l.fn.directories
          + sum_by (g.D.Directories.cost over b) (take l.low l.lists.queue.now.items);
      room : HasRoomForLevel l.low l.high l.lists.references.now.items l.lists.reached.now.items l.lists.queue.now.items;
      levels : (b : List ℕ) → knows b → AtSomeLevel (graph b) l.low l.high l.lists.reached.now.items
          l.lists.parents.now.items l.lists.queue.now.items;
      counts : (b : List ℕ) → knows b → IsCount (graph b) (take l.low l.lists.queue.now.items)
          old.references.now.items l.lists.references.now.items l.lists.named.now.items;
      calm : (b : List ℕ) → knows b → AreCalm old.kinds.now old.marked.now.items l.lists.reached.now.items
          l.lists.parents.now.items (g.D.Directories.entries over b) (g.D.Directories.right_shape over b)
          l.lists.calm.now.items;
      read : (b : List ℕ) → knows b → (i : ℕ) → i < l.low →
          let d = number_at l.lists.queue.now.items i in
          IsReadOnce (dir_by old.kinds.now old.marked.now.items l.lists.parents.now.items d) l.lists.reached.now.items
          l.lists.parents.now.items (g.D.Directories.entries over b d) (g.D.Directories.right_shape over b d)
          l.lists.calm.now.items;
    }

abbrev pub decreases-loop-low : goal.decreases-loop-low
decreases-loop-low g l = length l.lists.queue.now.items - l.low
