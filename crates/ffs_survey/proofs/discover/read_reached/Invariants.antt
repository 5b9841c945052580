use Rattle.std.proofs.Common.{◌≡◌, ℕ, ◌+◌, ◌<◌, ◌≤◌, ◌^◌, List, length, take, ◌&&◌}
use Rattle.ffs_survey.specs.{Discover.{Extends, from_entries, unset, count_in, any_in}, Lent.{current_in, HasRoomAfter}}
use Rattle.ffs_survey.{specs.Survey.{number_at, bool_at}, proofs.{Lending.StillLent, Remaining.{Counts, SameResult}}}
use Rattle.ffs_volume.specs.Costs.Calm.{are_calm}
use Rattle.ffs_survey.proofs.discover.read_reached.Given as goal

abbrev pub invariant-loop-entry : goal.invariant-loop-entry
invariant-loop-entry g l =
    let old = l.fn.lists in
    let over = g.D.Directories.base l.fn.directories in
    let knows = g.D.Directories.knows over in
    let current = current_in old l.dir l.parent in
    let entries = λ (b : List ℕ). g.D.Directories.entries over b l.dir in
    let rest = g.D.Directories.rest l.directories in
    let coming = g.D.Directories.left l.directories in
    record {
      lent : StillLent g.D.Directories l.fn.directories l.directories old l.lists;
      reads : (b : List ℕ) → knows b → g.D.Directories.reads l.directories + g.D.Directories.to_read l.directories b
          ≤ g.D.Directories.reads l.fn.directories + g.D.Directories.cost over b l.dir;
      held : (b : List ℕ) → knows b → g.D.Directories.held l.directories;
      flags : l.lists.calm.now.items ≡ old.calm.now.items;
      room : HasRoomAfter l.high l.lists;
      extends : Extends l.top l.high old.queue.now.items l.lists.queue.now.items;
      left : coming ≤ 2 ^ 28;
      grown : (x : ℕ) → x < length old.kinds.now →
          number_at l.lists.references.now.items x + coming ≤ number_at old.references.now.items x + 2 ^ 28;
      counted : l.count + coming ≤ 2 ^ 28;
      high : l.high + unset l.lists.reached.now.items ≡ l.top + unset old.reached.now.items;
      same_result : (b : List ℕ) → knows b → SameResult (from_entries old.kinds.now l.dir (entries b)) old.reached.now.items
          old.parents.now.items (take l.top old.queue.now.items) (from_entries old.kinds.now l.dir (rest b))
          l.lists.reached.now.items l.lists.parents.now.items (take l.high l.lists.queue.now.items);
      counts : (b : List ℕ) → knows b → Counts (length old.kinds.now) (count_in (entries b)) (any_in (entries b))
          old.references.now.items old.named.now.items (count_in (rest b)) (any_in (rest b))
          l.lists.references.now.items l.lists.named.now.items;
      calm_so_far : (b : List ℕ) → knows b →
          (l.calm_so_far && are_calm current (bool_at l.lists.reached.now.items) l.count (rest b))
          ≡ are_calm current (bool_at old.reached.now.items) 0 (entries b);
      right_shape : (b : List ℕ) → knows b →
          g.D.Directories.right_shape_so_far l.directories b ≡ g.D.Directories.right_shape over b l.dir;
    }

abbrev pub decreases-loop-entry : goal.decreases-loop-entry
decreases-loop-entry g l = g.D.Directories.left l.directories
