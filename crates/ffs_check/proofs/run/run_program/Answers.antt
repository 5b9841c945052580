use Rattle.std.proofs.Common.{rules, ◌≡◌, ℕ, List}
use Rattle.ffs_report.specs.{Outlet.IsCaused, Sink.Sink}
use Rattle.ffs_check.specs.{Program.Meaning, Run.{FlushedAfter, RunMoment, RunsProgram, RunsProgramFlushed, Surroundings}}
use Rattle.ffs_check.specs.Run.{run_moment}
use Rattle.ffs_check.proofs.run.run_program.Goals as goal

run_ends_flushed : {R O S E : Type 0} (program : Meaning R) (given : Surroundings O S E)
    (words : List (List ℕ)) (out out' : Sink) (old new : RunMoment O S E) (between : S)
    (ran_status status : ℕ) → RunsProgram program given.images given.errors words
    (run_moment old.opener out old.errors) (run_moment new.opener out' new.errors) ran_status →
    FlushedAfter given.outlet.was_flushed given.outlet.contents between new.out ran_status status →
    out.taken ≡ given.outlet.contents old.out → out.failures ≡ 0 → out'.taken ≡ given.outlet.contents between →
    ∥ IsCaused given.outlet.was_written out'.failures ∥₁ →
    RunsProgramFlushed program given words old new status
run_ends_flushed program given words out out' old new between ran_status status ran flushed before unfailed after caused =
    record {
      out = out;
      out' = out';
      between = between;
      before = before;
      unfailed = unfailed;
      after = after;
      caused = caused;
      ran_status = ran_status;
      ran = ran;
      flushed = flushed;
    }

pub returns : goal.returns
returns g c = run_ends_flushed _ _ _ _ _ _ _ _ _ _ c.run_program_over-status.ensures.ends
    c.flush_after.ensures (search rules) (search rules) (search rules) (search rules)
