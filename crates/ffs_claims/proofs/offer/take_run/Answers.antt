use Rattle.std.proofs.Common.{ℕ, Option, None, Some, ◌+◌, ◌<◌, ◌≤◌, rules, sym, ◌∙◌, arith}
use Rattle.std.proofs.lemmas.{Bool.Decides.nat_tests, Result.err_from_is_err_and}
use Rattle.ffs_volume.specs.declared.Step.TheVariants.{Run}
use Rattle.ffs_walk.specs.Counts.{indirect_in_step}
use Rattle.ffs_workspace.specs.Holds.{claims_of}
use Rattle.ffs_claims.proofs.{Inodes.run_more, StepsContinue.{run_stops, run_stops_later, run_said}}
use Rattle.ffs_claims.proofs.offer.take_run.Goals as goal

-- a Run more is counted, of whichever block it is
counts : {old new : ℕ} (start len : ℕ) (block : Option ℕ) → old < new → old + indirect_in_step (Run start len block) ≤ new
counts start len None more = omega (arith, more)
counts start len (Some b) more = omega (arith, more)

pub returns-then-move_to-clause-claims : goal.returns-then-move_to-clause-claims
returns-then-move_to-clause-claims g c = λ block.
    let more = run_more c.args.geometry.now.layout (claims_of c.args.workspace.now) c.args.run.start c.args.run.len block
    c.requires.uncut in
    let runs = c.take_run_in_range.ensures.taken.only.runs in
    grind arith

pub returns-in_err-say_bad-clause-claims : goal.returns-in_err-say_bad-clause-claims
returns-in_err-say_bad-clause-claims g c =
    let more = λ (block : Option ℕ). run_more c.args.geometry.now.layout (claims_of c.args.workspace.now) c.args.run.start
    c.args.run.len block c.requires.uncut in
    rw ((err_from_is_err_and c.from_residual.result c.from_residual.ensures.1).1) (λ block. record {
      said = rw c.requires.uncut (run_stops _ _ (claims_of c.args.workspace.now) c.args.run.start c.args.run.len
          (sym c.move_to.ensures.value ∙ c.if-move_to.false) c.in_err-say_bad.ensures);
      claims = tt;
      seen = tt;
      counted = counts c.args.run.start c.args.run.len block (omega arith);
      runs = omega (arith, more block);
    })

pub take_bad_run-requires : goal.take_bad_run-requires
take_bad_run-requires g c = grind (arith, nat_tests)

pub returns-in_err-take_bad_run-clause-claims : goal.returns-in_err-take_bad_run-clause-claims
returns-in_err-take_bad_run-clause-claims g c =
    let more = λ (block : Option ℕ). run_more c.args.geometry.now.layout (claims_of c.args.workspace.now) c.args.run.start
    c.args.run.len block c.requires.uncut in
    let from = c.from_residual-in_err-take_bad_run in
    let did = c.in_err-take_bad_run.ensures in
    rw ((err_from_is_err_and from.result from.ensures.1).1) (λ block. record {
      said = rw c.requires.uncut (run_stops_later _ _ (claims_of c.args.workspace.now) c.args.run.start c.args.run.len
          (sym c.move_to.ensures.value ∙ c.if-move_to.false) (grind (arith, nat_tests)) c.in_ok-say_bad.ensures
          did.said);
      claims = tt;
      seen = tt;
      counted = counts c.args.run.start c.args.run.len block (omega (arith, did.only.runs));
      runs = omega (arith, did.only.runs, more block);
    })

pub returns-clause-claims : goal.returns-clause-claims
returns-clause-claims g c =
    let more = λ (block : Option ℕ). run_more c.args.geometry.now.layout (claims_of c.args.workspace.now) c.args.run.start
    c.args.run.len block c.requires.uncut in
    let did = c.in_ok-take_bad_run.ensures in
    λ block. record {
      said = rw c.requires.uncut (run_said _ _ (claims_of c.args.workspace.now) c.args.run.start c.args.run.len
          (sym c.move_to.ensures.value ∙ c.if-move_to.false) (grind (arith, nat_tests)) c.in_ok-say_bad.ensures
          did.said);
      claims = rw c.requires.uncut (search rules);
      seen = c.is_open.ensures;
      counted = counts c.args.run.start c.args.run.len block (omega (arith, did.only.runs));
      runs = omega (arith, did.only.runs, more block);
    }
