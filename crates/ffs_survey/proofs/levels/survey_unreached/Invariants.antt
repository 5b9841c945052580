use Rattle.std.proofs.Common.{ℕ, ◌+◌, ◌*◌, ◌<◌, ◌≤◌, ◌^◌, List, length}
use Rattle.ffs_survey.specs.{Lent.{KeepsReached, all_found}, Survey.{number_at, graph_with}}
use Rattle.ffs_volume.specs.Costs.DirectoryReads.{costs_below}
use Rattle.ffs_survey.{specs.Discover.{IsBlank, IsRead, is_unreached_dir}, proofs.Lending.StillLent}
use Rattle.ffs_survey.proofs.levels.survey_unreached.Given as goal

abbrev pub invariant-loop-number : goal.invariant-loop-number
invariant-loop-number g l =
    let old = l.fn.lists in
    let over = g.D.Directories.base l.fn.directories in
    let knows = g.D.Directories.knows over in
    record {
      lent : StillLent g.D.Directories l.fn.directories l.directories old l.lists;
      reads : (b : List ℕ) → knows b → g.D.Directories.reads l.directories ≤ g.D.Directories.reads l.fn.directories
          + costs_below (is_unreached_dir old.kinds.now old.reached.now.items) (g.D.Directories.cost over b) l.number;
      kept : KeepsReached old l.lists;
      grown : (x : ℕ) → x < length old.kinds.now →
          number_at l.lists.references.now.items x ≤ number_at old.references.now.items x + l.number * 2 ^ 28;
      read : (b : List ℕ) → knows b → IsBlank old.kinds.now old.reached.now.items old.parents.now.items →
          IsRead (graph_with old.kinds.now (g.D.Directories.entries over b)) old.kinds.now old.reached.now.items l.number
          (all_found old) (all_found l.lists);
    }
