use Rattle.std.proofs.{Common.{sym, ap, ◌∙◌, arith, rules}, lemmas.Result.err_from_is_err_and}
use Rattle.ffs_names.proofs.{Advances.{gap_ended, run_is_given}, Continuing.{counts_more, same_more}, ReadCounts.run_passed}
use Rattle.ffs_names.proofs.RunChunks.{none_taken}
use Rattle.ffs_names.proofs.gap.find_gap.Goals as goal

-- a Run with chunks is passed over
pub runs-preserved : goal.runs-preserved
runs-preserved g c =
    let inv = c.runs.invariant in
    let went = c.in_ok-advance.ensures in
    let kept = same_more went.leaves.same inv.kept in
    record {
      same = went.leaves.read ∙ inv.same;
      kept = search rules;
      each = λ b t. counts_more (inv.each b t) (went.continues b (ap (λ d. d.contents) inv.same ∙ t)).runs;
      ready = rw inv.kept.geometry at went.leaves.ready;
      any = omega (arith, went.steps c.if-branch.true, inv.any);
      gap = λ b t. inv.gap b t ∙ sym (went.continues b (ap (λ d. d.contents) inv.same ∙ t)).gap;
      reads = λ w h b t.
          let old = inv.reads w h b t in
          let took = went.leaves.counted w old.1 b (ap (λ d. d.contents) inv.same ∙ t) in (
            omega (arith, took.paid, run_passed c.advance.new.self.run_cursor.count, old.0),
            record { frames = took.held.frames; run = λ some left. absurd (omega (arith, left)) },
          );
    }

-- no step is left
pub returns : goal.returns
returns g c =
    let inv = c.runs.invariant in
    let went = c.in_ok-advance.ensures.leaves in
    record {
      gap = grind (arith, gap_ended);
      again = λ b t.
          let seen = c.in_ok-advance.ensures.found.none c.if-branch.false b (ap (λ d. d.contents) inv.same ∙ t) in
          sym (gap_ended c.advance.new.self.gap _ seen.gap);
      none = λ b t old.
          let seen = c.in_ok-advance.ensures.found.none c.if-branch.false b (ap (λ d. d.contents) inv.same ∙ t) in
          none_taken c.advance.new.self.chunks_left _ seen.chunks;
      fault = tt;
      runs = record {
        rises = (same_more went.same inv.kept).runs;
        each = λ b t. counts_more (inv.each b t)
            (c.in_ok-advance.ensures.continues b (ap (λ d. d.contents) inv.same ∙ t)).runs;
        fault = tt;
        chunk = tt;
      };
      leaves = record {
        same = same_more went.same inv.kept;
        ready = rw inv.kept.geometry at went.ready;
        read = went.read ∙ inv.same;
        counted = λ w h b t.
            let old = inv.reads w h b t in
            let took = went.counted w old.1 b (ap (λ d. d.contents) inv.same ∙ t) in
            record { most = omega (arith, took.most, old.0); paid = omega (arith, took.paid, old.0); held = took.held };
        any = omega (arith, went.any, inv.any);
      };
    }

-- a read failed
pub returns-in_err-advance : goal.returns-in_err-advance
returns-in_err-advance g c =
    let inv = c.runs.invariant in
    let failed = c.in_err-advance.ensures.leaves in
    let p = err_from_is_err_and c.from_residual.result c.from_residual.ensures.1 in
    rw (p.1, p.2) (record {
      gap = tt;
      again = tt;
      none = tt;
      fault = c.in_err-advance.ensures.fault;
      runs = record {
        rises = (same_more failed.same inv.kept).runs;
        each = tt;
        fault = λ b t. omega (
          arith,
          (inv.each b t).most,
          c.in_err-advance.ensures.continues b (ap (λ d. d.contents) inv.same ∙ t),
        );
        chunk = λ more b t. absurd (run_is_given (c.in_err-advance.ensures.fault b) more);
      };
      leaves = record {
        same = same_more failed.same inv.kept;
        ready = rw inv.kept.geometry at failed.ready;
        read = rw inv.same at failed.read;
        counted = λ w h b t.
            let old = inv.reads w h b t in
            let took = failed.counted w old.1 b (ap (λ d. d.contents) inv.same ∙ t) in
            record { most = omega (arith, took.most, old.0); paid = tt; held = tt };
        any = omega (arith, failed.any, inv.any);
      };
    })
