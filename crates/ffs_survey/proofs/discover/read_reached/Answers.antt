use Rattle.std.proofs.Common.{arith, ap, ◌∙◌, ◌&&◌, rules, ◌≡◌, ◌∷◌, ◌<◌, nat_le, List, ℕ, suc}
use Rattle.ffs_volume.specs.{Directories.Roles.{RoledEntry, refers}, declared.Role.TheVariants.Empty}
use Rattle.ffs_survey.proofs.{CalmLaws.{calm_step, read_whole}, Discovered.{bit-le, entry_step}, Lending.still_by}
use Rattle.ffs_survey.proofs.{Lending.{same_kinds, queue_long}, Queues.{extends_on, keeps_queue}, Totals.entry_counted}
use Rattle.ffs_survey.proofs.{Remaining.{discovered_same, discovered_whole}, Skipping.{FindsSame, calm_over, skipped_same}}
use Rattle.ffs_survey.specs.{Lent.current_in, Reading.roled_of, Survey.{bool_at, number_at}}
use Rattle.ffs_volume.specs.Costs.Calm.{is_calm_entry}
use Rattle.ffs_survey.proofs.discover.read_reached.Goals.{then-calm_so_far, else-calm_so_far, then-calm_so_far-2, else-calm_so_far-2}
use Rattle.ffs_survey.proofs.discover.read_reached.Goals as goal

pub loop-entry-preserved : goal.loop-entry-preserved
loop-entry-preserved g c =
    let inv = c.loop-entry.invariant in
    let fell : g.D.Directories.left c.next.new.self < g.D.Directories.left c.loop-entry.directories =
    rw c.in-Some.is at c.in_ok-entry.ensures.left in
    let e : RoledEntry = roled_of c.in-Some.entry (g.D.Directories.name c.next.new.self) in
    let rest = g.D.Directories.rest c.next.new.self in
    let reported = rw inv.lent.base at c.in_ok-entry.ensures.rest in
    let cut = λ (b : List ℕ) (k : g.D.Directories.knows (g.D.Directories.base c.args.directories.now) b).
    let q : g.D.Directories.rest c.loop-entry.directories b ≡ e ∷ rest b = rw c.in-Some.is at (reported b k) in q in
    let read = rw inv.lent.base at c.in_ok-entry.ensures.counted in
    let old = c.args.lists.now in
    let current = current_in old c.args.dir c.number_of-parent.result in
    let counted = c.count_entry.ensures in
    let reach = c.reach-high.ensures in
    let same_result = rw (same_kinds inv.lent.same) at (discovered_same reach.discovered) in
    let right : c.if-calm_so_far-2.calm_so_far ≡ (c.loop-entry.calm_so_far
    && is_calm_entry current (bool_at c.loop-entry.lists.reached.now.items) c.loop-entry.count e)
    = elim c.if-calm_so_far-2.branch [
      | then-calm_so_far-2 w ↦ rw w.if-calm_so_far-2.true (w.calm_so_far-is ∙ w.is_calm_entry-calm_so_far.ensures)
      | else-calm_so_far-2 w ↦ rw w.if-calm_so_far-2.false (w.calm_so_far-is ∙ w.if-calm_so_far-2.false)
    ] in
    record {
      lent = still_by g.D.Directories (search rules) (search rules) (search rules)
          (reach.counts.same.lent ∙ inv.lent.same.lent);
      reads = λ b k. omega (arith, (read b k (inv.held b k)).paid, inv.reads b k);
      held = λ b k. (read b k (inv.held b k)).held;
      flags = reach.counts.calm ∙ inv.flags;
      room = omega (arith, reach.ends, inv.room, queue_long reach.counts.same);
      extends = extends_on inv.extends reach.extends;
      left = omega (arith, inv.left, fell);
      grown = λ x l.
          let now = ap (λ items. number_at items x) reach.counts.references in
          omega (arith, inv.grown x l, counted.counts x l, now, bit-le (refers x e), fell);
      counted = omega (arith, inv.counted, fell);
      high = omega (arith, reach.ends, inv.high);
      same_result = λ b k.
          entry_step old.kinds.now c.args.dir e (rest b) (rw (cut b k) at (inv.same_result b k)) same_result;
      counts = λ b k. rw (reach.counts.references, reach.counts.named)
          (entry_counted e (rest b) (rw (cut b k) at (inv.counts b k)) counted.counts counted.names);
      calm_so_far = λ b k. calm_step current c.loop-entry.count e (rest b) c.loop-entry.calm_so_far same_result right
          (rw (cut b k) at (inv.calm_so_far b k));
      right_shape = let s = rw inv.lent.base at c.in_ok-entry.ensures.shape in λ b k. s b k ∙ inv.right_shape b k;
    }

pub loop-entry-preserved-then-entry-eq0 : goal.loop-entry-preserved-then-entry-eq0
loop-entry-preserved-then-entry-eq0 g c =
    let inv = c.loop-entry.invariant in
    let next = c.in_ok-entry.ensures in
    let skip = c.skip_empty.ensures in
    let same = next.reader.same ∙ inv.lent.base in
    let fell : g.D.Directories.left c.next.new.self < g.D.Directories.left c.loop-entry.directories = rw c.in-Some.is at next.left in
    let e : RoledEntry = roled_of c.in-Some.entry (g.D.Directories.name c.next.new.self) in
    let empty : e.role ≡ Empty = c.in-Some.entry.unnumbered c.if-entry-eq0.true in
    let rest = g.D.Directories.rest c.next.new.self in
    let after = g.D.Directories.rest c.skip_empty.new.self in
    let old = c.args.lists.now in
    let reported = rw inv.lent.base at next.rest in
    let here = λ (b : List ℕ) (k : g.D.Directories.knows (g.D.Directories.base c.args.directories.now) b).
    let whole : g.D.Directories.rest c.loop-entry.directories b ≡ e ∷ rest b = rw c.in-Some.is at (reported b k) in whole in
    let skips = rw same at skip.rest in
    let found = λ (b : List ℕ) (k : g.D.Directories.knows (g.D.Directories.base c.args.directories.now) b).
    let finds : FindsSame (g.D.Directories.rest c.loop-entry.directories b) (after b) =
    rw (here b k) (skipped_same (suc c.skip_empty.result) (e ∷ rest b) (after b) (empty, skips b k)) in
    finds in
    let taken = λ (b : List ℕ) (k : g.D.Directories.knows (g.D.Directories.base c.args.directories.now) b).
    (rw inv.lent.base at next.counted) b k (inv.held b k) in
    let skipped = λ (b : List ℕ) (k : g.D.Directories.knows (g.D.Directories.base c.args.directories.now) b).
    (rw same at skip.counted) b k (taken b k).held in
    let right : c.if-calm_so_far.calm_so_far ≡ (c.loop-entry.calm_so_far && nat_le 2 c.loop-entry.count)
    = elim c.if-calm_so_far.branch [
      | then-calm_so_far w ↦ rw w.if-calm_so_far.true w.calm_so_far-is
      | else-calm_so_far w ↦ rw w.if-calm_so_far.false (w.calm_so_far-is ∙ w.if-calm_so_far.false)
    ] in
    record {
      lent = still_by g.D.Directories skip.reader.is_ready (skip.reader.same ∙ same)
          (skip.reader.read ∙ (next.reader.read ∙ inv.lent.device)) inv.lent.same.lent;
      reads = λ b k. omega (arith, (skipped b k).paid, (taken b k).paid, inv.reads b k);
      held = λ b k. (skipped b k).held;
      flags = inv.flags;
      room = inv.room;
      extends = inv.extends;
      left = omega (arith, inv.left, fell, skip.left);
      grown = λ x l. omega (arith, inv.grown x l, fell, skip.left);
      counted = omega (arith, inv.counted, fell, skip.left);
      high = inv.high;
      same_result = λ b k. rw (← (found b k).discovers old.kinds.now c.args.dir) (inv.same_result b k);
      counts = λ b k. rw (← (found b k).counts, ← (found b k).names) (inv.counts b k);
      calm_so_far = λ b k. rw right (calm_over c.loop-entry.calm_so_far (current_in old c.args.dir c.number_of-parent.result)
          (bool_at c.loop-entry.lists.reached.now.items) c.skip_empty.result c.loop-entry.count e (rest b) (after b) empty
          (skips b k) (rw (here b k) at (inv.calm_so_far b k)));
      right_shape = λ b k. (rw same at skip.shape) b k ∙ ((rw inv.lent.base at next.shape) b k ∙ inv.right_shape b k);
    }

pub returns-clause-found : goal.returns-clause-found
returns-clause-found g c = grind (arith, keeps_queue, read_whole, discovered_whole)
