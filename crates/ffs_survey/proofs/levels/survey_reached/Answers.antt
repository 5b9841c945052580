use Rattle.ffs_survey.proofs.{Discovered.{set_tests, unset-le, unset-set}, Frontiers.{sane_of, levels_start}}
use Rattle.ffs_survey.proofs.{Frontiers.{frontier_start, queue_start}, Queues.{counted_on, reached_part, alone_part}}
use Rattle.ffs_survey.proofs.{Queues.{none_counted, empty_level, is_extended}, CalmLaws.{calm_none, same_result_stays}}
use Rattle.ffs_survey.proofs.{Costs.{level_costs, queue_costs, queue_within}, Lending.{kinds_long, same_kinds}}
use Rattle.ffs_survey.proofs.{Lending.{same_marks, still_by}, NextLevel.{AtLevel, few_counted, level_reached, next_at}}
use Rattle.ffs_survey.{specs.{Discover.Extends, Survey.graph_with}, proofs.Remaining.{counted_same, discovered_same}}
use Rattle.ffs_survey.proofs.ReadOnce.{read_each, read_on_queue, unread_level}
use Rattle.std.proofs.Common.{ℕ, ap, rules, ◌≡◌, ◌+◌, ◌≤◌, length, take, arith, refl, sym, ◌∙◌}
use Rattle.ffs_survey.proofs.levels.survey_reached.Goals as goal

pub loop-low-init : goal.loop-low-init
loop-low-init g c =
    let old = c.args.lists.now in
    let begins = c.requires in
    record {
      lent = still_by g.D.Directories (search rules) (search rules) (search rules) refl;
      reads = λ b k. omega arith;
      room = record {
        ordered = omega arith;
        room = let one = unset-set old.reached.now.items 2 (omega arith) (begins.reached 2) in
            rw c.set.ensures.items (omega (arith, one, unset-le old.reached.now.items, c.set-3.ensures.len));
        counted = λ x l. omega (arith, begins.starts x);
      };
      levels = λ b k.
          let v = graph_with old.kinds.now (g.D.Directories.entries (g.D.Directories.base c.args.directories.now) b) in
          let queue = ap (take 1) c.set-3.ensures.items ∙ queue_start old.queue.now.items (omega arith) in
          let start : AtLevel v 0 0 1 c.set.new.self.items c.set-2.new.self.items c.set-3.new.self.items =
          record {
            frontier = rw queue (frontier_start (sane_of old.kinds.now _ old.long.some));
            levels = rw (queue, c.set.ensures.items, c.set-2.ensures.items) (levels_start v old.reached.now.items old.parents.now.items (omega arith)
                (omega arith) begins.reached begins.parents);
          } in
          record { depth = 0; at = start };
      counts = λ b k. none_counted begins.named;
      calm = λ b k. calm_none _ _ old.calm.now.items begins.calm;
      read = λ b k i none. absurd (omega arith);
    }

pub read_level-requires : goal.read_level-requires
read_level-requires g c =
    let inv = c.loop-low.invariant in
    let es = g.D.Directories.entries (g.D.Directories.base c.args.directories.now) in
    record {
      can = record { ready = inv.lent.ready; counts = few_counted c.loop-low.lists inv.room; room = inv.room.room };
      ordered = inv.room.ordered;
      reached = rw (inv.lent.base, same_kinds inv.lent.same) (λ b k.
          level_reached (es b) (sym c.is_dir.ensures ∙ c.if-not-is_dir.false) (inv.levels b k));
    }

pub loop-low-preserved : goal.loop-low-preserved
loop-low-preserved g c =
    let inv = c.loop-low.invariant in
    let done = c.in_ok-end.ensures in
    let queue = c.loop-low.lists.queue.now.items in
    let mid = c.read_level.new.lists in
    let sorted = c.sort_part.ensures in
    let kinds = c.args.lists.now.kinds.now in
    let entries = g.D.Directories.entries (g.D.Directories.base c.args.directories.now) in
    let read = rw (inv.lent.base, same_kinds inv.lent.same, same_marks inv.lent.same) at done.found.read in
    let extends : Extends c.loop-low.high c.in_ok-end.end queue mid.queue.now.items =
    is_extended done.found.ordered done.found.kept in
    let kept : take c.loop-low.high c.sort_part.new.self.items ≡ take c.loop-low.high queue =
    sorted.before ∙ extends.kept in
    record {
      lent = still_by g.D.Directories (search rules) (search rules) (search rules)
          (done.leaves.lists.lent ∙ inv.lent.same.lent);
      reads = let r = rw inv.lent.base at done.leaves.reader.counted in
          λ b k.
          let both = level_costs (g.D.Directories.cost (g.D.Directories.base c.args.directories.now) b) c.loop-low.low
          c.loop-low.high queue _ inv.room.ordered kept in
          omega (arith, r b k, inv.reads b k, both);
      room = grind arith;
      levels = λ b k. let before = inv.levels b k in
          record {
            depth = before.depth + 1;
            at = next_at kinds (entries b) c.args.lists.now.long.some extends sorted (discovered_same (read b k).discovered)
                before.depth before.at;
          };
      counts = λ b k.
          counted_on c.loop-low.low c.loop-low.high queue _ inv.room.ordered kept (inv.counts b k)
          (counted_same (read b k).counted);
      calm = λ b k. (read b k).calm (inv.calm b k);
      read = λ b k.
          let right_shape = g.D.Directories.right_shape (g.D.Directories.base c.args.directories.now) b in
          let level = (inv.levels b k).at in
          let root = sym c.is_dir.ensures ∙ c.if-not-is_dir.false in
          let unread = unread_level kinds (entries b) c.args.lists.now.long.some root level.frontier level.levels in
          let inside : c.loop-low.high ≤ length queue = omega (arith, inv.room.room) in
          read_on_queue (entries b) right_shape c.loop-low.low c.loop-low.high queue c.sort_part.new.self.items
          inv.room.ordered inside kept (same_result_stays (discovered_same (read b k).discovered)) (read b k).kept
          (inv.read b k)
          ((read b k).once unread);
    }

pub returns-clause-found : goal.returns-clause-found
returns-clause-found g c =
    let inv = c.loop-low.invariant in
    let old = c.args.lists.now in
    let here = c.loop-low.lists in
    let base = g.D.Directories.base c.args.directories.now in
    let same : c.loop-low.low ≡ c.loop-low.high = omega (arith, inv.room.ordered, c.loop-low-test.false) in
    let none = empty_level c.loop-low.low c.loop-low.high here.queue.now.items c.loop-low-test.false in
    let reached_long = here.long.reached_long ∙ kinds_long inv.lent.same in
    record {
      counts = few_counted here inv.room;
      part = λ b k.
          let es = g.D.Directories.entries base b in
          let level = (inv.levels b k).at in
          reached_part old.kinds.now es reached_long (sane_of old.kinds.now es old.long.some)
          (rw none at level.frontier) level.levels (rw same at (inv.counts b k));
      calm = inv.calm;
      read = λ b k d dir reached.
          let right_shape = g.D.Directories.right_shape base b in
          let level = (inv.levels b k).at in
          read_each (g.D.Directories.entries base b) right_shape c.loop-low.high here.queue.now.items level.levels.queued
          (rw same at (inv.read b k)) d reached;
      once = grind (arith, queue_costs);
    }

pub returns-then-not-is_dir-clause-found : goal.returns-then-not-is_dir-clause-found
returns-then-not-is_dir-clause-found g c =
    let old = c.args.lists.now in
    let begins = c.requires in
    record {
      counts = λ x l. omega (arith, begins.starts x);
      part = λ b k.
          let es = g.D.Directories.entries (g.D.Directories.base c.args.directories.now) b in
          alone_part old.kinds.now es (omega (arith, c.set.ensures.len))
          (sane_of old.kinds.now es old.long.some) (sym c.is_dir.ensures ∙ c.if-not-is_dir.true)
          (rw (c.set.ensures.items, c.set-2.ensures.items) (levels_start (graph_with old.kinds.now es) old.reached.now.items
          old.parents.now.items (omega arith) (omega arith) begins.reached begins.parents)) begins.named;
      calm = λ b k. calm_none _ _ old.calm.now.items begins.calm;
      read = λ b k d dir reached. absurd (grind (arith, set_tests));
      once = λ b k. omega arith;
    }

pub returns-clause-leaves : goal.returns-clause-leaves
returns-clause-leaves g c = grind (arith, queue_within)

pub returns-in_err-end-clause-leaves : goal.returns-in_err-end-clause-leaves
returns-in_err-end-clause-leaves g c =
    let queue = c.loop-low.lists.queue.now.items in
    let ordered = c.loop-low.invariant.room.ordered in
    let both = λ (cost : ℕ → ℕ). level_costs cost c.loop-low.low c.loop-low.high queue queue ordered refl in
    grind (arith, both, queue_within)
