use Rattle.ffs_names.proofs.Continuing.{counts_here, can_walk, continues_more, no_more, same_here, same_more, walk_on}
use Rattle.ffs_names.{specs.Windows.CanWalkDir, proofs.Advances.{only_walks, over_gaps, over_rest, over_runs}}
use Rattle.ffs_names.proofs.Advances.{over_tail, runs_gaps, runs_on, runs_tail, same_walked, seen_if_over, seen_if_shut}
use Rattle.ffs_names.proofs.{Advances.{over_left, sees_on, walks_on}, ReadCounts.whole_held}
use Rattle.std.proofs.Common.{◌≡◌, ◌∙◌, ◌∷◌, ◌++◌, ◌<◌, ℕ, List, Some, inr, replicate, refl, ap, sym, arith}
use Rattle.std.proofs.lemmas.{Bool.false≢true, Result.err_from_is_err_and}
use Rattle.ffs_volume.{specs.declared.Step.{Step, TheVariants.Gap}, proofs.Results.fails_with}
use Rattle.ffs_walk.specs.{Keepings.replay_in, Rests.{most_steps_left, steps_left}}
use Rattle.ffs_names.proofs.chunks.Chunks.advance.Goals as goal

pub invariant_of-self-in-None : goal.invariant_of-self-in-None
invariant_of-self-in-None g c = grind arith

pub invariant_of-self-in-Run-1 : goal.invariant_of-self-in-Run-1
invariant_of-self-in-Run-1 g c = grind arith

pub invariant_of-self-in-Some-Tail : goal.invariant_of-self-in-Some-Tail
invariant_of-self-in-Some-Tail g c = grind arith

pub invariant_of-self-in-Some-Gap : goal.invariant_of-self-in-Some-Gap
invariant_of-self-in-Some-Gap g c = grind arith

pub steps-init : goal.steps-init
steps-init g c = grind (arith, same_here, no_more, counts_here)

pub steps-preserved-in-Some-Tail : goal.steps-preserved-in-Some-Tail
steps-preserved-in-Some-Tail g c =
    let i = c.steps.invariant in
    let s = c.steps.self in
    let x = c.in-Some-Tail in
    let next = c.in_ok-next.ensures in
    let same = c.next.ensures.same.geometry in
    let falls = rw x.is at next.step.falls in
    let steps = λ (b : List ℕ) (t : (g.I.Image.device c.args.image.now).contents ≡ Some b).
    (rw x.field-0-is at (rw x.is at next.step.steps)) b (ap (λ d. d.contents) i.device ∙ t) in
    record {
      continues = λ b t. continues_more (i.continues b t)
          (over_tail (only_walks same refl refl refl refl refl) refl (steps b t));
      same = same_walked i.same (only_walks same refl refl refl refl refl);
      ready = walk_on i.same.geometry (ap (λ d. d.size) next.leaves.read) c.next.ensures.leaves.kept i.ready;
      device = next.leaves.read ∙ i.device;
      any = omega (arith, falls, next.any, i.any);
      fewer = omega (arith, falls, i.fewer);
      falls = λ more. omega (arith, falls, i.fewer);
      run = i.run;
      held = λ w h. let old = i.held w h in record { frames = (next.counted old.frames).held; run = old.run };
      reads = λ u h b t.
          let paid = rw x.field-0-is at (rw x.is at (next.counted (i.held u h).frames).paid) in
          let runs = runs_tail s.keeping (ap (λ x. x.layout) same) (steps b t) in
          omega (arith, paid, runs, i.reads u h b t);
    }

-- the gaps that follow a gap are passed too
pub steps-preserved : goal.steps-preserved
steps-preserved g c =
    let i = c.steps.invariant in
    let s = c.steps.self in
    let x = c.in-Some-Gap in
    let next = c.in_ok-next.ensures in
    let gaps = c.skip_gaps.ensures in
    let w = c.skip_gaps.new.self in
    let n = c.skip_gaps.result in
    let same = gaps.same.geometry ∙ c.next.ensures.same.geometry in
    let ready : CanWalkDir c.args.self.now.walk.geometry.layout (g.I.Image.device c.next.new.image) c.next.new.blocks =
    walk_on i.same.geometry (ap (λ d. d.size) next.leaves.read) c.next.ensures.leaves.kept i.ready in
    let device = next.leaves.read ∙ i.device in
    let holds = (can_walk (c.next.ensures.same.geometry ∙ i.same.geometry) ready).holds in
    let passed : most_steps_left w < most_steps_left s.walk =
    let first = rw x.is at next.step.falls in let more = gaps.falls in omega (arith, first, more) in
    let steps : (b : List ℕ) → (g.I.Image.device c.args.image.now).contents ≡ Some b →
    steps_left b s.walk ≡ Gap ∷ (replicate n Gap ++ steps_left b w) = λ b t.
    (rw x.field-0-is at (rw x.is at next.step.steps)) b (ap (λ d. d.contents) i.device ∙ t)
    ∙ ap (λ (xs : List Step). Gap ∷ xs) (gaps.steps _ holds b (ap (λ d. d.contents) device ∙ t)) in
    record {
      continues = λ b t. continues_more (i.continues b t)
          (over_gaps n (only_walks same refl refl refl refl refl) refl
          (sym c.is_replay_open.ensures ∙ c.if-not-is_replay_open.false) (steps b t));
      same = same_walked i.same (only_walks same refl refl refl refl refl);
      ready = ready;
      device = device;
      any = omega (arith, passed, next.any, i.any);
      fewer = omega (arith, passed, i.fewer);
      falls = λ more. omega (arith, passed, i.fewer);
      run = i.run;
      held = λ u h. let old = i.held u h in
          record { frames = gaps.counted.held _ (next.counted old.frames).held; run = old.run };
      reads = λ u h b t.
          let paid = rw x.field-0-is at (rw x.is at (next.counted (i.held u h).frames).paid) in
          let runs = runs_gaps s.keeping n (steps_left b w) (ap (λ x. x.layout) same) (steps b t) in
          omega (arith, paid, gaps.counted.unread, runs, i.reads u h b t);
    }

pub steps-preserved-in-Some-Run : goal.steps-preserved-in-Some-Run
steps-preserved-in-Some-Run g c =
    let i = c.steps.invariant in
    let s = c.steps.self in
    let x = c.in-Some-Run in
    let next = c.in_ok-next.ensures in
    let seen = c.see.ensures.sees in
    let same = c.next.ensures.same.geometry in
    let falls = rw x.is at next.step.falls in
    let steps = λ (b : List ℕ) (t : (g.I.Image.device c.args.image.now).contents ≡ Some b).
    (rw x.field-0-is at (rw x.is at next.step.steps)) b (ap (λ d. d.contents) i.device ∙ t) in
    record {
      continues = λ b t. continues_more (i.continues b t)
          (sees_on seen.walk (seen.continues b (steps_left b c.next.new.self))
          (only_walks same refl refl refl refl refl) refl (steps b t));
      same = same_more c.see.ensures.same (same_walked i.same (only_walks same refl refl refl refl refl));
      ready = walk_on i.same.geometry (ap (λ d. d.size) next.leaves.read) c.next.ensures.leaves.kept i.ready;
      device = next.leaves.read ∙ i.device;
      any = rw seen.walk (omega (arith, falls, next.any, i.any));
      fewer = rw seen.walk (omega (arith, falls, i.fewer));
      falls = λ more. rw seen.walk (omega (arith, falls, i.fewer));
      run = inr seen.whole;
      held = λ u h. record {
        frames = rw seen.walk (next.counted (i.held u h).frames).held;
        run = whole_held c.see.new.self.run_cursor seen.whole u;
      };
      reads = λ u h b t.
          let paid = rw x.field-0-is at (rw x.is at (next.counted (i.held u h).frames).paid) in
          let runs = runs_on s.keeping (ap (λ x. x.layout) same) (steps b t) in
          let run = rw seen.walk at (seen.reads (steps_left b c.next.new.self)) in
          rw seen.walk (omega (arith, paid, runs, run, i.reads u h b t));
    }

pub returns-then-not-is_replay_open-clause-found : goal.returns-then-not-is_replay_open-clause-found
returns-then-not-is_replay_open-clause-found g c = grind (arith, seen_if_shut)

-- a walk that failed is over
pub returns-in_err-next-clause-continues : goal.returns-in_err-next-clause-continues
returns-in_err-next-clause-continues g c = grind (arith, err_from_is_err_and, over_runs)

pub returns-in_err-next-clause-fault : goal.returns-in_err-next-clause-fault
returns-in_err-next-clause-fault g c = rw (err_from_is_err_and c.from_residual.result c.from_residual.ensures.1).1
    (λ b. seen_if_over c.steps-test.true c.in_err-next.ensures.fault)

-- no step is left
pub returns-in-None-clause-continues : goal.returns-in-None-clause-continues
returns-in-None-clause-continues g c = λ b t.
    let i = c.steps.invariant in
    let step = c.in_ok-next.ensures.step in
    let none = (rw c.in-None.is at step.steps) b (ap (λ d. d.contents) i.device ∙ t) in
    continues_more (i.continues b t) (walks_on (only_walks c.next.ensures.same.geometry refl refl refl refl refl) refl
    (none ∙ sym (over_rest b c.next.new.self (step.over c.in-None.is))))

pub returns-in-None-clause-found : goal.returns-in-None-clause-found
returns-in-None-clause-found g c = record {
  more = λ e. absurd (false≢true e);
  falls = λ e. absurd (false≢true e);
  run = λ e. absurd (false≢true e);
  none = λ _ b t. seen_if_over c.steps-test.true (c.in_ok-next.ensures.step.over c.in-None.is);
}

-- what is left at each return
pub returns-then-not-is_replay_open-clause-leaves : goal.returns-then-not-is_replay_open-clause-leaves
returns-then-not-is_replay_open-clause-leaves g c = let i = c.steps.invariant in record {
  same = i.same;
  ready = i.ready;
  read = i.device;
  counted = λ u h b t. let now = i.reads u h b t in record { most = omega (arith, now); paid = now; held = i.held u h };
  any = omega (arith, i.any);
}

pub returns-in_err-next-clause-leaves : goal.returns-in_err-next-clause-leaves
returns-in_err-next-clause-leaves g c =
    let i = c.steps.invariant in
    let failed = c.in_err-next.ensures in
    rw (fails_with _ c.from_residual.ensures.1) (record {
      same = same_walked i.same (only_walks c.next.ensures.same.geometry refl refl refl refl refl);
      ready = walk_on i.same.geometry failed.leaves.read.size c.next.ensures.leaves.kept i.ready;
      read = rw i.device at failed.leaves.read;
      counted = λ u h b t.
          let most = (failed.counted (i.held u h).frames).most in
          record { most = omega (arith, most, i.reads u h b t); paid = tt; held = tt };
      any = omega (arith, failed.any, over_left failed.fault, i.any);
    })

pub returns-in-None-clause-leaves : goal.returns-in-None-clause-leaves
returns-in-None-clause-leaves g c =
    let i = c.steps.invariant in
    let s = c.steps.self in
    let w = c.next.new.self in
    let next = c.in_ok-next.ensures in
    record {
      same = same_walked i.same (only_walks c.next.ensures.same.geometry refl refl refl refl refl);
      ready = walk_on i.same.geometry (ap (λ d. d.size) next.leaves.read) c.next.ensures.leaves.kept i.ready;
      read = next.leaves.read ∙ i.device;
      counted = λ u h b t.
          let counted = next.counted (i.held u h).frames in
          let paid = rw c.in-None.is at counted.paid in
          let none = over_runs b w w.geometry.layout s.keeping.cut (replay_in s.keeping)
          (next.step.over c.in-None.is) in
          let now = i.reads u h b t in
          record {
            most = omega (arith, paid, now);
            paid = omega (arith, paid, none, now);
            held = record { frames = counted.held; run = (i.held u h).run };
          };
      any = omega (arith, next.any, over_left (next.step.over c.in-None.is), i.any);
    }

pub returns-clause-leaves : goal.returns-clause-leaves
returns-clause-leaves g c = let i = c.steps.invariant in record {
  same = i.same;
  ready = i.ready;
  read = i.device;
  counted = λ u h b t. let now = i.reads u h b t in record { most = omega (arith, now); paid = now; held = i.held u h };
  any = omega (arith, i.any);
}
