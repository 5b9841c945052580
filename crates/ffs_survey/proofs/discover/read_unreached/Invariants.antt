use Rattle.std.proofs.Common.{◌≡◌, ℕ, ◌+◌, ◌<◌, ◌≤◌, ◌^◌, List, length, cond, eqb, ◌&&◌}
use Rattle.ffs_survey.specs.{Discover.{count_in, any_in, is_unreached_dir}, Lent.KeepsReached, Survey.number_at}
use Rattle.ffs_survey.proofs.{Lending.StillLent, Remaining.Counts}
use Rattle.ffs_survey.proofs.discover.read_unreached.Given as goal

abbrev pub invariant-loop-entry : goal.invariant-loop-entry
invariant-loop-entry g l =
    let old = l.fn.lists in
    let over = g.D.Directories.base l.fn.directories in
    let knows = g.D.Directories.knows over in
    let entries = λ (b : List ℕ). g.D.Directories.entries over b l.dir in
    let rest = g.D.Directories.rest l.directories in
    let coming = g.D.Directories.left l.directories in
    record {
      lent : StillLent g.D.Directories l.fn.directories l.directories old l.lists;
      reads : (b : List ℕ) → knows b → g.D.Directories.reads l.directories + g.D.Directories.to_read l.directories b
          ≤ g.D.Directories.reads l.fn.directories + g.D.Directories.cost over b l.dir;
      held : (b : List ℕ) → knows b → g.D.Directories.held l.directories;
      kept : KeepsReached old l.lists;
      left : coming ≤ 2 ^ 28;
      grown : (x : ℕ) → x < length old.kinds.now →
          number_at l.lists.references.now.items x + coming ≤ number_at old.references.now.items x + 2 ^ 28;
      counts : (b : List ℕ) → knows b → Counts (length old.kinds.now) (count_in (entries b)) (any_in (entries b))
          old.references.now.items old.named.now.items (count_in (rest b)) (any_in (rest b))
          l.lists.references.now.items l.lists.named.now.items;
      parents : (b : List ℕ) → knows b → (x : ℕ) → x < length old.kinds.now →
          cond (eqb (number_at l.lists.parents.now.items x) 0
          && (is_unreached_dir old.kinds.now old.reached.now.items x && any_in (rest b) x)) l.dir
          (number_at l.lists.parents.now.items x)
          ≡ cond (eqb (number_at old.parents.now.items x) 0
          && (is_unreached_dir old.kinds.now old.reached.now.items x && any_in (entries b) x)) l.dir
          (number_at old.parents.now.items x);
    }

abbrev pub decreases-loop-entry : goal.decreases-loop-entry
decreases-loop-entry g l = g.D.Directories.left l.directories
