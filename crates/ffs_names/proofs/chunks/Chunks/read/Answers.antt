use Rattle.std.proofs.{lemmas.{Bool.Decides.nat_tests, Grind.common_steps}, Common.{◌∙◌, ◌+◌, ◌*◌, ap, arith}}
use Rattle.std.proofs.lemmas.Result.{err_from_is_err_and}
use Rattle.ffs_volume.{specs.Disk.Numbers.piece, proofs.Results.fails_with}
use Rattle.ffs_names.proofs.{Advances.run_is_given, RunChunks.cursor_step}
use Rattle.ffs_names.proofs.chunks.Chunks.read.Goals as goal

pub returns-clause-chunk : goal.returns-clause-chunk
returns-clause-chunk g c = grind (arith, cursor_step)

pub returns-then-not-branch-clause-chunk : goal.returns-then-not-branch-clause-chunk
returns-then-not-branch-clause-chunk g c = grind arith

-- after a failed read
pub returns-in_err-advance-clause-chunk : goal.returns-in_err-advance-clause-chunk
returns-in_err-advance-clause-chunk g c = grind (arith, err_from_is_err_and)

pub returns-in_err-read_chunk-clause-chunk : goal.returns-in_err-read_chunk-clause-chunk
returns-in_err-read_chunk-clause-chunk g c = grind (arith, err_from_is_err_and)

pub returns-clause-place : goal.returns-clause-place
returns-clause-place g c =
    let h = c.advance.new.self.run_cursor in
    let more = c.in_ok-advance.ensures.found.more c.if-not-branch.false in
    record {
      bytes = λ b t. c.in_ok-read_chunk.ensures.chunk b (ap (λ d. d.contents) c.in_ok-advance.ensures.leaves.read ∙ t)
          ∙ ap (λ n. piece (h.place + 512 * n) 512 b) (omega arith);
      inside = grind (arith, common_steps);
    }

pub returns-in_err-advance-clause-reads : goal.returns-in_err-advance-clause-reads
returns-in_err-advance-clause-reads g c =
    rw (fails_with _ c.from_residual.ensures.1) (λ held b t.
    let took = c.in_err-advance.ensures.leaves.counted c.args.window.now held b t in
    record { most = took.most; paid = tt; held = tt })

pub returns-then-not-branch-clause-reads : goal.returns-then-not-branch-clause-reads
returns-then-not-branch-clause-reads g c = λ held b t.
    let took = c.in_ok-advance.ensures.leaves.counted c.args.window.now held b t in
    record { most = took.most; paid = took.paid; held = took.held }

-- the chunks of the Run are read, unless the window has them
pub returns-in_err-read_chunk-clause-reads : goal.returns-in_err-read_chunk-clause-reads
returns-in_err-read_chunk-clause-reads g c = rw (fails_with _ c.from_residual-in_err-read_chunk.ensures.1) (λ held b t.
    let took = c.in_ok-advance.ensures.leaves.counted c.args.window.now held b t in
    let run = c.read_chunk.ensures.leaves.counted took.held.run in
    record { most = omega (arith, took.paid, run); paid = tt; held = tt })

pub returns-clause-reads : goal.returns-clause-reads
returns-clause-reads g c = λ held b t.
    let took = c.in_ok-advance.ensures.leaves.counted c.args.window.now held b t in
    let h = c.advance.new.self.run_cursor in
    let run = c.read_chunk.ensures.leaves.counted took.held.run in
    record {
      most = omega (arith, took.paid, run);
      paid = grind (arith, took.paid, run, nat_tests);
      held = record { frames = took.held.frames; run = λ some left. c.in_ok-read_chunk.ensures.leaves.held left };
    }

-- the chunk is the first one of its Run, or it follows the one that was given before
pub returns-clause-steps : goal.returns-clause-steps
returns-clause-steps g c = grind arith

-- what is left
pub returns-in_err-advance-clause-leaves : goal.returns-in_err-advance-clause-leaves
returns-in_err-advance-clause-leaves g c =
    let failed = c.in_err-advance.ensures in
    rw (fails_with _ c.from_residual.ensures.1) (record {
      same = failed.leaves.same;
      runs = record {
        rises = failed.leaves.same.runs;
        each = tt;
        fault = failed.continues;
        chunk = λ more b t. absurd (run_is_given (failed.fault b) more);
      };
      ready = grind arith;
      read = failed.leaves.read;
      any = failed.leaves.any;
    })

pub returns-then-not-branch-clause-leaves : goal.returns-then-not-branch-clause-leaves
returns-then-not-branch-clause-leaves g c = grind arith

pub returns-in_err-read_chunk-clause-leaves : goal.returns-in_err-read_chunk-clause-leaves
returns-in_err-read_chunk-clause-leaves g c = grind arith

pub returns-clause-leaves : goal.returns-clause-leaves
returns-clause-leaves g c = grind arith
