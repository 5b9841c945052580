use Rattle.std.proofs.Common.{◌≡◌, ◌<◌, ◌≤◌, ℕ, List, arith, rules, length, length-take, take, ◌∙◌}
use Rattle.ffs_survey.proofs.Queues.{at_place, extends_on, is_extended, keeps_queue, empty_level, number_kept}
use Rattle.ffs_survey.proofs.{CalmLaws.calm_read, CalmLaws.same_result_stays, Costs.next_cost, Discovered.level_step}
use Rattle.ffs_survey.proofs.{Lending.{leaves_by, kinds_long, same_kinds, same_marks, still_by}, Totals.dir_counted}
use Rattle.ffs_survey.proofs.{Discovered.dir_below, ReadOnce.{flags_grow, level_read, other_place, read_from, read_next}}
use Rattle.ffs_survey.{specs.{Discover.IsReachedDir, Survey.number_at}, proofs.Remaining.{counted_same, discovered_same}}
use Rattle.ffs_survey.proofs.Remaining.{discovered_whole}
use Rattle.ffs_survey.proofs.discover.read_level.Goals as goal

pub loop-at-preserved : goal.loop-at-preserved
loop-at-preserved g c =
    let inv = c.loop-at.invariant in
    let base = g.D.Directories.base c.args.directories.now in
    let entries = g.D.Directories.entries base in
    let old = c.args.lists.now in
    let here = c.loop-at.lists in
    let done = c.in_ok-top.ensures in
    let found = rw (inv.lent.base, same_kinds inv.lent.same, same_marks inv.lent.same) at done.found in
    let level = take c.args.high old.queue.now.items in
    let place = c.loop-at.at in
    let inside : place < length level =
    omega (arith, length-take c.args.high old.queue.now.items, c.loop-at-test.true, c.requires.can.room) in
    let is : c.number_of-dir.result ≡ number_at level place =
    c.number_of-dir.ensures ∙ number_kept place c.loop-at-test.true inv.extends in
    let read = rw is at found.read in
    let same = λ (b : List ℕ) (k : g.D.Directories.knows base b). discovered_same (read b k).discovered in
    let still = λ (b : List ℕ) (k : g.D.Directories.knows base b).
    at_place (IsReachedDir old.kinds.now here.reached.now.items) c.args.low place level (inv.still b k) inv.from inside in
    record {
      lent = still_by g.D.Directories (search rules) (search rules) (search rules)
          (done.leaves.lists.lent ∙ inv.lent.same.lent);
      reads = let r = rw (inv.lent.base, is) at done.leaves.reader.counted in
          λ b k. omega (arith, r b k, inv.reads b k, next_cost (g.D.Directories.cost base b) level place inside);
      from = omega (arith, inv.from);
      extends = extends_on inv.extends (is_extended found.ordered found.kept);
      grown = λ x l. omega (arith, inv.grown x l, found.grown x l, inv.from);
      top = omega (arith, found.ends, inv.top);
      same_result = λ b k.
          level_step old.kinds.now (entries b) level place inside (still b k).dir (inv.same_result b k)
          (same b k);
      counts = λ b k.
          dir_counted old.kinds.now (entries b) level place inside (still b k).dir (inv.counts b k)
          (counted_same (read b k).counted);
      still = λ b k i d l.
          let s = inv.still b k i d l in
          record { dir = s.dir; is_reached = (same_result_stays (same b k)).reached _ s.is_reached };
      calm = λ b k before.
          calm_read (entries b) (g.D.Directories.right_shape base b) _ _ _ (same b k) (still b k).is_reached
          (read b k).calm (inv.calm b k before);
      kept = λ b k x set. flags_grow _ _ (g.D.Directories.right_shape base b (number_at level place)) here.calm.now.items
          c.read_reached.new.lists.calm.now.items (read b k).calm x (inv.kept b k x set);
      once = λ b k unread.
          let s = still b k in
          let long : number_at level place < length here.calm.now.items = omega (
            arith,
            dir_below old.kinds.now (number_at level place) s.dir,
            here.long.calm_long,
            kinds_long inv.lent.same,
          ) in
          read_next old.kinds.now old.marked.now.items here.calm.now.items c.read_reached.new.lists.calm.now.items (entries b) (g.D.Directories.right_shape base b) level c.args.low place inv.from inside
          (λ i. other_place level c.args.low place i unread inv.from) (same b k) s.is_reached
          (read b k).calm long (inv.once b k unread);
    }

pub loop-at-init : goal.loop-at-init
loop-at-init g c = grind (arith, read_from)

pub returns-clause-found : goal.returns-clause-found
returns-clause-found g c =
    let inv = c.loop-at.invariant in
    let base = g.D.Directories.base c.args.directories.now in
    let level = take c.args.high c.args.lists.now.queue.now.items in
    let end : length level ≤ c.loop-at.at =
    omega (arith, length-take c.args.high c.args.lists.now.queue.now.items, c.loop-at-test.false) in
    let once = λ (b : List ℕ) (k : g.D.Directories.knows base b).
    level_read (g.D.Directories.entries base b) (g.D.Directories.right_shape base b) level c.args.low c.loop-at.at end
    (inv.once b k) in
    grind (arith, keeps_queue, empty_level, discovered_whole)

pub returns-in_err-top-clause-leaves : goal.returns-in_err-top-clause-leaves
returns-in_err-top-clause-leaves g c =
    let inv = c.loop-at.invariant in
    let queue = c.args.lists.now.queue.now.items in
    let level = take c.args.high queue in
    let place = c.loop-at.at in
    let inside : place < length level =
    omega (arith, length-take c.args.high queue, c.loop-at-test.true, c.requires.can.room) in
    let is : c.number_of-dir.result ≡ number_at level place =
    c.number_of-dir.ensures ∙ number_kept place c.loop-at-test.true inv.extends in
    let read = rw (inv.lent.base, is) at c.in_err-top.ensures.leaves.reader.counted in
    leaves_by g.D.Directories (search rules) (search rules) (search rules) (search rules) (λ b k.
    let next = next_cost (g.D.Directories.cost (g.D.Directories.base c.args.directories.now) b) level place inside in
    omega (arith, inv.reads b k, read b k, next))
