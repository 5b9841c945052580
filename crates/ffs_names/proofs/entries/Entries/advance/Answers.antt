use Rattle.std.proofs.{Common.{◌≡◌, ◌∙◌, ◌+◌, ◌≤◌, ◌==◌, ◌&&◌, ℕ, List, [], Some, ap, refl, sym, arith}, lemmas.Bool.and_parts}
use Rattle.ffs_volume.proofs.Results.{fails_with}
use Rattle.ffs_names.proofs.OneChunks.{ended_held, ended_reads, ended_rest}
use Rattle.ffs_walk.specs.Rests.{most_steps_left}
use Rattle.ffs_names.specs.{Costs.{HoldsEntries, reads_for_entries}, Entering.to_come, Readings.rest}
use Rattle.ffs_names.proofs.{Continuing.counts_more, Entered.{chunk_came, end_seen, none_came}}
use Rattle.ffs_names.proofs.EntryCounts.{HoldsBy, continues_by_chunks, reads_by}
use Rattle.ffs_names.proofs.Shaped.{shape_came, shape_ended, shape_same, fills_whole}
use Rattle.ffs_names.proofs.entries.Entries.advance.Goals.{After-take}
use Rattle.ffs_names.proofs.entries.Entries.advance.Given as given
use Rattle.ffs_names.proofs.entries.Entries.advance.Goals as goal

-- taking an entry, or finding none, changes no count of reads
taken : (g : given.Over) (c : After-take g) → HoldsEntries c.args.blocks.now c.args.window.now c.args.self.now → (b :
    List ℕ) → (g.I.Image.device c.args.image.now).contents ≡ Some b → (g.I.Image.reads c.chunks.image + reads_by b
    c.take.new.self.right_so_far c.take.new.self.chunks ≤ g.I.Image.reads c.args.image.now + reads_for_entries b
    c.args.self.now) × HoldsBy c.chunks.blocks c.chunks.window c.take.new.self.right_so_far c.take.new.self.chunks
taken g c held b t =
    let same = c.take.ensures.same in rw (same.right_so_far, same.chunks) (c.chunks.invariant.reads held b t)

pub returns-in-Some-clause-entry : goal.returns-in-Some-clause-entry
returns-in-Some-clause-entry g c = λ b t. let same = c.take.ensures.same in record {
  entries = sym (c.chunks.invariant.entries b t) ∙ c.in-Some.ensures.taken.entries b;
  shape = shape_same b _ _ _ _ _ _ same.right_so_far same.fills same.chunks ∙ c.chunks.invariant.shape b t;
  ended = tt;
  over = tt;
}

-- the only chunk has no further entry
pub returns-then-self-clause-entry : goal.returns-then-self-clause-entry
returns-then-self-clause-entry g c = λ b t.
    let i = c.chunks.invariant in
    let s = c.take.new.self in
    let same = c.take.ensures.same in
    let over = c.in-None.ensures.taken in
    let none = over.left in
    let rest = ended_rest b s.chunks (s.only c.if-self.true) in
    record {
      entries = sym (i.entries b t) ∙ (sym (ap (to_come b) over.same) ∙ none_came s.at_start
          s.index s.order s.chunk s.place _ none rest);
      shape = shape_ended s.right_so_far s.order s.chunk s.chunk s.place _ _ _ _ none rest rest refl
          ∙ (shape_same b _ _ _ _ _ _ same.right_so_far same.fills same.chunks ∙ i.shape b t);
      ended = record { chunks = rest; current = fills_whole s.order s.chunk };
      over = rw rest (end_seen s.at_start s.index s.order s.chunk []);
    }

pub returns-then-self-clause-reads : goal.returns-then-self-clause-reads
returns-then-self-clause-reads g c = λ held b t.
    let s = c.take.new.self in
    let now = taken g (goal.at.returns-then-self-clause-reads g c).After-take held b t in
    let ended = s.only c.if-self.true in
    let none = ended_reads b (s.right_so_far && (s.place == 512)) s.chunks ended in
    record { most = omega (arith, now.0); paid = omega (arith, now.0, none); held = ended_held _ s.chunks ended _ _ }

-- no chunk came
pub returns-in-None-2-clause-entry : goal.returns-in-None-2-clause-entry
returns-in-None-2-clause-entry g c = λ b t.
    let i = c.chunks.invariant in
    let s = c.take.new.self in
    let same = c.take.ensures.same in
    let o = (rw c.in-None-2.is at c.in_ok-next.ensures.chunk) b (ap (λ d. d.contents) i.device ∙ t) in
    let over = c.in-None.ensures.taken in
    let none = over.left in
    record {
      entries = sym (i.entries b t) ∙ (sym (ap (to_come b) over.same) ∙ none_came s.at_start
          s.index s.order s.chunk s.place (rest b s.chunks) none o.chunks.0);
      shape = shape_ended s.right_so_far s.order s.chunk c.next.new.chunk s.place (rest b s.chunks)
          (rest b c.next.new.self) _ _ none o.chunks.0 o.chunks.1 o.gap
          ∙ (shape_same b _ _ _ _ _ _ same.right_so_far same.fills same.chunks ∙ i.shape b t);
      ended = record { chunks = o.chunks.1; current = fills_whole s.order c.next.new.chunk };
      over = rw o.chunks.1 (end_seen s.at_start s.index s.order c.next.new.chunk []);
    }

-- a chunk came
pub chunks-preserved : goal.chunks-preserved
chunks-preserved g c =
    let i = c.chunks.invariant in
    let s = c.take.new.self in
    let same = c.take.ensures.same in
    let next = c.in_ok-next.ensures in
    let over = c.in-None.ensures.taken in
    let none = over.left in
    let chunks_left = rw c.in-Some-2.is at next.leaves.chunks_left in
    let geometry = ap (λ x. x.walk.geometry) same.chunks ∙ i.geometry in
    record {
      entries = λ b t.
          let o = (rw c.in-Some-2.is at next.chunk) b (ap (λ d. d.contents) i.device ∙ t) in
          chunk_came s.at_start s.index s.order s.chunks.walk.geometry.layout.order s.chunk s.place (rest b s.chunks)
          c.in-Some-2.offset c.next.new.chunk (rest b c.next.new.self) none (sym s.same_order) o.chunks
          ∙ (ap (to_come b) over.same ∙ i.entries b t);
      shape = λ b t.
          let o = (rw c.in-Some-2.is at next.chunk) b (ap (λ d. d.contents) i.device ∙ t) in
          shape_came s.right_so_far s.order s.chunks.walk.geometry.layout.order s.chunk s.place (rest b s.chunks)
          c.in-Some-2.offset c.next.new.chunk (rest b c.next.new.self) _ _ none (sym s.same_order) o.chunks o.gap
          ∙ (shape_same b _ _ _ _ _ _ same.right_so_far same.fills same.chunks ∙ i.shape b t);
      place = λ b t held low. (rw c.in-Some-2.is at next.leaves.place).bytes b (ap (λ d. d.contents) i.device ∙ t);
      inside = λ held low. rw c.next.ensures.leaves.geometry ((rw c.in-Some-2.is at next.leaves.place).inside);
      reads = λ held b t.
          let now = taken g (goal.at.chunks-preserved g c).After-take held b t in
          let took = continues_by_chunks b s.right_so_far _ s.chunks c.next.new.self _ _ _ _ _ _ _
          (λ e. (and_parts s.right_so_far _ e).0) (omega (arith, chunks_left)) (λ e. (next.leaves.over e).1)
          (λ h. next.reads h b (ap (λ d. d.contents) i.device ∙ t)) now.1 in
          (omega (arith, took.paid, now.0), took.held);
      any = omega (
        arith,
        next.leaves.any,
        chunks_left,
        ap (λ x. x.chunks_left) same.chunks,
        ap (λ x. most_steps_left x.walk) same.chunks,
        i.any,
      );
      left = omega (arith, chunks_left, ap (λ x. x.chunks_left) same.chunks, i.left);
      runs = omega (arith, next.leaves.runs.rises, ap (λ x. x.runs) same.chunks, i.runs);
      each = λ b t. counts_more (i.each b t)
          ((rw same.chunks at next.leaves.runs.each) b (ap (λ d. d.contents) i.device ∙ t));
      geometry = c.next.ensures.leaves.geometry ∙ geometry;
      ready = rw geometry at c.next.ensures.leaves.ready;
      device = next.leaves.read ∙ i.device;
    }

pub returns-in-Some-clause-leaves : goal.returns-in-Some-clause-leaves
returns-in-Some-clause-leaves g c =
    let i = c.chunks.invariant in
    let same = c.take.ensures.same in
    let taken = c.in-Some.ensures.taken in
    record {
      geometry = ap (λ x. x.walk.geometry) same.chunks ∙ i.geometry;
      ready = i.ready;
      read = i.device;
      place = record {
        held = λ b t before. rw (same.chunk, same.chunks) (i.place b t before taken.place);
        inside = λ before. rw same.chunks (i.inside before taken.place);
      };
      left = omega (arith, taken.left, i.left);
      runs = rw same.chunks (record { rises = i.runs; each = i.each; fault = tt; chunk = tt });
      most = omega (arith, i.any);
      any = rw same.chunks (omega (arith, i.any));
    }

pub returns-then-self-clause-leaves : goal.returns-then-self-clause-leaves
returns-then-self-clause-leaves g c = grind arith

-- a read failed
pub returns-in_err-next-clause-leaves : goal.returns-in_err-next-clause-leaves
returns-in_err-next-clause-leaves g c =
    let i = c.chunks.invariant in
    let same = c.take.ensures.same.chunks in
    let failed = c.in_err-next.ensures.leaves in
    let geometry = ap (λ x. x.walk.geometry) same ∙ i.geometry in
    rw (fails_with _ c.from_residual.ensures.1) (record {
      geometry = failed.geometry ∙ geometry;
      ready = rw geometry at failed.ready;
      read = rw i.device at failed.read;
      place = tt;
      left = tt;
      runs = record {
        rises = omega (arith, failed.runs.rises, ap (λ x. x.runs) same, i.runs);
        each = tt;
        fault = λ b t. omega (
          arith,
          (i.each b t).most,
          (rw same at failed.runs.fault) b (ap (λ d. d.contents) i.device ∙ t),
        );
        chunk = λ more b t. counts_more (i.each b t)
            ((rw same at failed.runs.chunk) more b (ap (λ d. d.contents) i.device ∙ t));
      };
      most = omega (arith, failed.any, ap (λ x. most_steps_left x.walk) same, i.any);
      any = tt;
    })

pub returns-in-Some-clause-reads : goal.returns-in-Some-clause-reads
returns-in-Some-clause-reads g c = λ held b t.
    let now = taken g (goal.at.returns-in-Some-clause-reads g c).After-take held b t in
    record { most = omega (arith, now.0); paid = now.0; held = now.1 }

pub returns-in-None-2-clause-reads : goal.returns-in-None-2-clause-reads
returns-in-None-2-clause-reads g c = λ held b t.
    let s = c.take.new.self in
    let next = c.in_ok-next.ensures in
    let now = taken g (goal.at.returns-in-None-2-clause-reads g c).After-take held b t in
    let chunks_left = rw c.in-None-2.is at next.leaves.chunks_left in
    let took = continues_by_chunks b s.right_so_far _ s.chunks c.next.new.self _ _ _ _ _ _ _
    (λ e. (and_parts s.right_so_far _ e).0) (omega (arith, chunks_left)) (λ e. (next.leaves.over e).1)
    (λ h. next.reads h b (ap (λ d. d.contents) c.chunks.invariant.device ∙ t)) now.1 in
    record { most = omega (arith, took.most, now.0); paid = omega (arith, took.paid, now.0); held = took.held }

pub returns-in_err-next-clause-reads : goal.returns-in_err-next-clause-reads
returns-in_err-next-clause-reads g c =
    rw (fails_with _ c.from_residual.ensures.1) (λ held b t.
    let s = c.take.new.self in
    let next = c.in_err-next.ensures in
    let now = taken g (goal.at.returns-in_err-next-clause-reads g c).After-take held b t in
    let took = continues_by_chunks b s.right_so_far s.right_so_far s.chunks c.next.new.self _ _ _ _ _ _ _
    (λ h. h) (omega (arith, next.leaves.chunks_left)) (λ e. (next.leaves.over e).1)
    (λ h. next.reads h b (ap (λ d. d.contents) c.chunks.invariant.device ∙ t)) now.1 in
    record { most = omega (arith, took.most, now.0); paid = tt; held = tt })

pub returns-in-None-2-clause-leaves : goal.returns-in-None-2-clause-leaves
returns-in-None-2-clause-leaves g c =
    let i = c.chunks.invariant in
    let same = c.take.ensures.same.chunks in
    let next = c.in_ok-next.ensures.leaves in
    let geometry = ap (λ x. x.walk.geometry) same ∙ i.geometry in
    let chunks_left = rw c.in-None-2.is at next.chunks_left in
    record {
      geometry = next.geometry ∙ geometry;
      ready = rw geometry at next.ready;
      read = next.read ∙ i.device;
      place = tt;
      left = tt;
      runs = record {
        rises = omega (arith, next.runs.rises, ap (λ x. x.runs) same, i.runs);
        each = λ b t. counts_more (i.each b t) ((rw same at next.runs.each) b (ap (λ d. d.contents) i.device ∙ t));
        fault = tt;
        chunk = tt;
      };
      most = omega (arith, next.any, ap (λ x. most_steps_left x.walk) same, i.any);
      any = omega (
        arith,
        next.any,
        chunks_left,
        ap (λ x. x.chunks_left) same,
        ap (λ x. most_steps_left x.walk) same,
        i.any,
      );
    }
