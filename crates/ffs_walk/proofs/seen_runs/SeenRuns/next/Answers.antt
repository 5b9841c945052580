use Rattle.std.proofs.Common.{◌≡◌, ◌∙◌, ap, arith, inl, inr, refl, sym, true}
use Rattle.ffs_volume.{specs.Encodings.Replay.is_replay_open, proofs.Results.fails_with}
use Rattle.ffs_walk.{specs.Keepings.replay_in, proofs.ReplayedRuns.{closed_runs, gaps_left, none_left, run_left}}
use Rattle.ffs_walk.proofs.{ReplayedRuns.tail_left, Splices.keeps_then}
use Rattle.ffs_walk.proofs.seen_runs.SeenRuns.next.Goals as goal

pub returns-then-not-is_replay_open : goal.returns-then-not-is_replay_open
returns-then-not-is_replay_open g c =
    let shut = sym c.is_replay_open.ensures ∙ c.if-not-is_replay_open.true in record {
      run = record {
        runs = λ bytes t. closed_runs _ _ _ _ shut;
        falls = tt;
        done = λ none. inl shut;
      };
      fault = tt;
      done = λ d. (refl, refl);
      geometry = refl;
      leaves = record { kept = record { size = refl; holds = c.requires.holds }; read = refl };
      counted = λ h. record { most = omega arith; paid = omega arith; held = h };
      any = omega arith;
    }

pub next-requires : goal.next-requires
next-requires g c = let inv = c.loop-step.invariant in rw (inv.geometry, inv.image) (record {
  volume = c.requires.volume;
  room = record { blocks_fit = omega (arith, c.requires.room.blocks_fit, inv.blocks.size) };
  holds = inv.blocks.holds;
})

pub returns-in_err-step : goal.returns-in_err-step
returns-in_err-step g c =
    let inv = c.loop-step.invariant in
    let did = c.in_err-step.ensures in
    let going = sym c.is_replay_open.ensures ∙ c.if-not-is_replay_open.false in
    rw (fails_with _ c.from_residual.ensures.1) (record {
      run = tt;
      fault = inr did.fault;
      done = λ d. elim d [
        | inl shut ↦ grind (arith, shut, going)
        | inr over ↦ grind (arith, did.over (inv.over over).0)
      ];
      geometry = did.same.geometry ∙ inv.geometry;
      leaves = record {
        kept = keeps_then (ap (λ k. k.layout) inv.geometry) inv.blocks did.leaves.kept;
        read = rw inv.image at did.leaves.read;
      };
      counted = λ h. record {
        most = omega (arith, (did.counted (inv.held h)).most, inv.paid h);
        paid = tt;
        held = tt;
      };
      any = omega (arith, did.any, inv.any);
    })

pub returns-in-Run : goal.returns-in-Run
returns-in-Run g c =
    let inv = c.loop-step.invariant in
    let did = c.in_ok-step.ensures in
    let v = c.next.new.self.geometry.layout in
    let image = did.leaves.read ∙ inv.image in
    let next = rw (inv.image, c.in-Some.is, c.in-Run.is) at did.step.steps in
    let took = c.take-kept.ensures in
    let replays = took.replays v c.in-Run.start c.in-Run.block c.in_range-in_range.ensures in
    let same = did.same.geometry in
    let going : is_replay_open c.loop-step.self.keeping.cut (replay_in c.loop-step.self.keeping) ≡ true =
    rw (← inv.keeping) at (sym c.is_replay_open.ensures ∙ c.if-not-is_replay_open.false) in
    record {
      run = record {
        runs = λ bytes t. inv.left bytes t ∙ run_left _ v _ _ _ _ _ _ _ _ _ _
            (ap (λ k. k.layout) same) (next bytes t) going (took.count v c.in-Run.start c.in_range-in_range.ensures)
            replays.after took.cut;
        falls = omega (arith, inv.falls, rw c.in-Some.is at did.step.falls);
        done = λ none. grind (arith, none);
      };
      fault = tt;
      done = λ d. elim d [
        | inl shut ↦ grind (arith, shut, sym c.is_replay_open.ensures ∙ c.if-not-is_replay_open.false)
        | inr over ↦ grind (arith, did.over (inv.over over).0, c.in-Some.is)
      ];
      geometry = same ∙ inv.geometry;
      leaves = record {
        kept = keeps_then (ap (λ k. k.layout) inv.geometry) inv.blocks did.leaves.kept;
        read = image;
      };
      counted = λ h.
          let reads = rw (c.in-Some.is, c.in-Run.is) at (did.counted (inv.held h)) in record {
            most = omega (arith, reads.most, inv.paid h);
            paid = omega (arith, reads.paid, inv.paid h);
            held = reads.held;
          };
      any = omega (arith, did.any, inv.any);
    }

pub loop-step-preserved-in-Gap : goal.loop-step-preserved-in-Gap
loop-step-preserved-in-Gap g c =
    let inv = c.loop-step.invariant in
    let did = c.in_ok-step.ensures in
    let skip = c.skip_gaps.ensures in
    let image = did.leaves.read ∙ inv.image in
    let next = rw (inv.image, c.in-Some.is, c.in-Gap.is) at did.step.steps in
    let same = did.same.geometry in
    let kept = c.next.ensures.leaves.kept in
    record {
      keeping = inv.keeping;
      geometry = skip.same.geometry ∙ same ∙ inv.geometry;
      image = image;
      blocks = rw image at (keeps_then (ap (λ k. k.layout) inv.geometry) inv.blocks kept);
      left = λ bytes t. inv.left bytes t ∙ gaps_left _ _ _ _ c.skip_gaps.result _ _ _
          (ap (λ k. k.layout) (skip.same.geometry ∙ same)) (next bytes t)
          (skip.steps _ (rw same kept.holds) bytes (ap (λ d. d.contents) image ∙ t));
      falls = omega (arith, inv.falls, rw c.in-Some.is at did.step.falls, skip.falls);
      over = λ o. grind (arith, did.over (inv.over o).0, c.in-Some.is);
      any = omega (arith, inv.any, did.any, rw c.in-Some.is at did.step.falls, skip.falls);
      held = λ h. skip.counted.held _ (did.counted (inv.held h)).held;
      paid = λ h. omega (
        arith,
        inv.paid h,
        rw (c.in-Some.is, c.in-Gap.is) at (did.counted (inv.held h)).paid,
        skip.counted.unread,
      );
    }

pub loop-step-preserved : goal.loop-step-preserved
loop-step-preserved g c =
    let inv = c.loop-step.invariant in
    let did = c.in_ok-step.ensures in
    let image = did.leaves.read ∙ inv.image in
    let next = rw (inv.image, c.in-Some.is, c.in-Tail.is) at did.step.steps in
    let kept = c.next.ensures.leaves.kept in
    record {
      keeping = inv.keeping;
      geometry = did.same.geometry ∙ inv.geometry;
      image = image;
      blocks = rw image at (keeps_then (ap (λ k. k.layout) inv.geometry) inv.blocks kept);
      left = λ bytes t. inv.left bytes t ∙ tail_left _ _ _ _ _ _ (ap (λ k. k.layout) did.same.geometry) (next bytes t);
      falls = omega (arith, inv.falls, rw c.in-Some.is at did.step.falls);
      over = λ o. grind (arith, did.over (inv.over o).0, c.in-Some.is);
      any = omega (arith, inv.any, did.any, rw c.in-Some.is at did.step.falls);
      held = λ h. (did.counted (inv.held h)).held;
      paid = λ h. omega (arith, inv.paid h, rw (c.in-Some.is, c.in-Tail.is) at (did.counted (inv.held h)).paid);
    }

pub returns : goal.returns
returns g c =
    let inv = c.loop-step.invariant in
    let did = c.in_ok-step.ensures in
    let image = did.leaves.read ∙ inv.image in
    let over = rw (inv.image, c.in_default.is) at did.step.steps in
    record {
      run = record {
        runs = λ bytes t. inv.left bytes t ∙ none_left _ _ _ _ (over bytes t);
        falls = tt;
        done = λ none. inr (did.step.over c.in_default.is);
      };
      fault = tt;
      done = λ d. elim d [
        | inl shut ↦ grind (arith, shut, sym c.is_replay_open.ensures ∙ c.if-not-is_replay_open.false)
        | inr over ↦
            let done = (inv.over over).0 in (
              refl,
              (did.at_inode (record { single = done.single; double = done.double; triple = done.triple })).1
                  ∙ (inv.over over).1,
            )
      ];
      geometry = did.same.geometry ∙ inv.geometry;
      leaves = record {
        kept = keeps_then (ap (λ k. k.layout) inv.geometry) inv.blocks did.leaves.kept;
        read = image;
      };
      counted = λ h.
          let reads = rw c.in_default.is at (did.counted (inv.held h)) in record {
            most = omega (arith, reads.most, inv.paid h);
            paid = omega (arith, reads.paid, inv.paid h);
            held = reads.held;
          };
      any = omega (arith, did.any, inv.any);
    }
