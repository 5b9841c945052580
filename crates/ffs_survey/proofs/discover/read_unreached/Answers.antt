use Rattle.std.proofs.Common.{arith, ap, ◌∙◌, ◌≡◌, ◌∷◌, ◌<◌, List, ℕ, suc}
use Rattle.ffs_volume.specs.{Directories.Roles.RoledEntry, declared.Role.TheVariants.Empty}
use Rattle.ffs_survey.proofs.{Lending.still_by, Skipping.{FindsSame, skipped_same}, Totals.entry_counted}
use Rattle.ffs_survey.specs.Reading.{roled_of}
use Rattle.ffs_survey.proofs.discover.read_unreached.Goals as goal

pub loop-entry-preserved : goal.loop-entry-preserved
loop-entry-preserved g c = grind (arith, entry_counted)

pub loop-entry-preserved-then-entry-eq0 : goal.loop-entry-preserved-then-entry-eq0
loop-entry-preserved-then-entry-eq0 g c =
    let inv = c.loop-entry.invariant in
    let next = c.in_ok-entry.ensures in
    let skip = c.skip_empty.ensures in
    let same = next.reader.same ∙ inv.lent.base in
    let fell : g.D.Directories.left c.next.new.self < g.D.Directories.left c.loop-entry.directories = rw c.in-Some.is at next.left in
    let e : RoledEntry = roled_of c.in-Some.entry (g.D.Directories.name c.next.new.self) in
    let empty : e.role ≡ Empty = c.in-Some.entry.unnumbered c.if-entry-eq0.true in
    let rest = g.D.Directories.rest c.next.new.self in
    let after = g.D.Directories.rest c.skip_empty.new.self in
    let reported = rw inv.lent.base at next.rest in
    let skips = rw same at skip.rest in
    let found = λ (b : List ℕ) (k : g.D.Directories.knows (g.D.Directories.base c.args.directories.now) b).
    let here : g.D.Directories.rest c.loop-entry.directories b ≡ e ∷ rest b = rw c.in-Some.is at (reported b k) in
    let finds : FindsSame (g.D.Directories.rest c.loop-entry.directories b) (after b) =
    rw here (skipped_same (suc c.skip_empty.result) (e ∷ rest b) (after b) (empty, skips b k)) in
    finds in
    let taken = λ (b : List ℕ) (k : g.D.Directories.knows (g.D.Directories.base c.args.directories.now) b).
    (rw inv.lent.base at next.counted) b k (inv.held b k) in
    let skipped = λ (b : List ℕ) (k : g.D.Directories.knows (g.D.Directories.base c.args.directories.now) b).
    (rw same at skip.counted) b k (taken b k).held in
    record {
      lent = still_by g.D.Directories skip.reader.is_ready (skip.reader.same ∙ same)
          (skip.reader.read ∙ (next.reader.read ∙ inv.lent.device)) inv.lent.same.lent;
      reads = λ b k. omega (arith, (skipped b k).paid, (taken b k).paid, inv.reads b k);
      held = λ b k. (skipped b k).held;
      kept = inv.kept;
      left = omega (arith, inv.left, fell, skip.left);
      grown = λ x l. omega (arith, inv.grown x l, fell, skip.left);
      counts = λ b k. rw (← (found b k).counts, ← (found b k).names) (inv.counts b k);
      parents = λ b k x l. rw (← ap (λ f. f x) (found b k).names) (inv.parents b k x l);
    }
