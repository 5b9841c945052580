use Rattle.std.proofs.Common.{ℕ, suc, arith, refl, ◌≡◌, ◌∙◌, ap, sym, List, ◌++◌, ◌∷◌, false, replicate, []}
use Rattle.ffs_volume.{proofs.{Potentials.moves_then, Results.fails_with}, specs.Blocks.Claims.after_step}
use Rattle.ffs_volume.specs.Blocks.{Claims.{after_steps, lines_of_steps, is_open}, Steps.steps_of}
use Rattle.ffs_volume.specs.{declared.Step.TheVariants.Gap, Costs.VolumeReads.indirect_in_steps}
use Rattle.ffs_report.proofs.Reporting.{of_begins, of_stops, of_reads, of_same, says_none}
use Rattle.ffs_image.specs.Device.{ForContents}
use Rattle.ffs_walk.{proofs.{Counted.{top_held, top_unread}, WalkSteps.top_ends}, specs.Rests.steps_left}
use Rattle.ffs_workspace.specs.Holds.{claims_of}
use Rattle.ffs_claims.proofs.{Frames.{can_walk, ready_still, ready_read, only_then}, Inodes.{sees_next, moves_on}}
use Rattle.ffs_claims.proofs.Inodes.{seen_bound, claiming_none, claiming_walked, claiming_on, step_most, steps_rise}
use Rattle.ffs_claims.proofs.StepsContinue.{cut_over, gaps_over, claims_on, lines_on, steps_said, without_steps}
use Rattle.ffs_claims.proofs.{IndirectReads.{gaps_unseen, indirect_on}, claim.claim_steps.Goals.in-Gap}
use Rattle.ffs_claims.proofs.{claim.claim_steps.Goals.in_default-matches, WordClaims.{sees_for, words_for}}
use Rattle.ffs_claims.specs.Lines.{of_lines}
use Rattle.ffs_claims.proofs.claim.claim_steps.Goals as goal

pub returns-then-not-has_steps : goal.returns-then-not-has_steps
returns-then-not-has_steps g c =
    let v = c.args.geometry.now.layout in
    let s = claims_of c.args.workspace.now in
    let none = λ (bytes : List ℕ). without_steps v c.args.owner.now.inode.now bytes
    (omega (arith, c.args.geometry.now.sound.sizes.bsize_low))
    (sym (c.has_steps.ensures c.requires.class_is) ∙ c.if-not-has_steps.true) in
    record {
      text = says_none
          (λ bytes t. ap (λ xs. of_lines (lines_of_steps v c.args.owner.now.number s xs)) (none bytes));
      claims = λ bytes t. sym (ap (after_steps v s) (none bytes));
      image = refl;
      left = claiming_none c.requires.claim;
      walk = c.requires.walk;
      counted = omega arith;
      known = λ bytes t. omega arith;
      most = λ bytes t. omega (arith, ap (λ xs. (after_steps v s xs).runs) (none bytes));
    }

pub claim_direct-requires-clause-can : goal.claim_direct-requires-clause-can
claim_direct-requires-clause-can g c = grind arith

pub loop-next-init : goal.loop-next-init
loop-next-init g c =
    let v = c.args.geometry.now.layout in
    let s = claims_of c.args.workspace.now in
    let walk = rw c.requires.walk at c.restart.ensures.walk c.requires.class_is in
    let top = c.restart.ensures.top in
    let begins = c.restart.ensures.geometry ∙ c.requires.walk in
    let words = words_for (ap (λ k. k.layout) begins) c.claim_direct.ensures.claims in
    let none = claiming_none c.requires.claim in
    let image = (g.I.Image.device c.args.image.now).contents in
    let blocks = none.claim.ready.windows.blocks in
    record {
      device = refl;
      left = claiming_on (record { only = words.only; all_in_range = none.claim.all_in_range })
          (omega (arith, seen_bound c.args.workspace.now words.only.made words.uncut words.means.bound))
          words.means.bound none;
      open_still = words.uncut;
      geometry = words.same.geometry ∙ begins;
      held = words.counted.held _ (top_held c.restart.new.self top _);
      counted = omega (arith, top_unread c.restart.new.self top, words.rises, words.counted.unread);
      indirect = λ bytes t. omega (
        arith,
        top_unread c.restart.new.self top,
        words.counted.unread,
        words.means.indirect image blocks bytes t,
        ap (indirect_in_steps v s) (walk.steps bytes),
      );
      claims = λ bytes t. words.means.claims image blocks bytes t ∙ ap (after_steps v s) (walk.steps bytes);
      said = of_same of_begins
          (λ bytes t. ap of_lines (sym (words.means.lines image blocks bytes t c.args.owner.now.number
          ∙ ap (lines_of_steps v c.args.owner.now.number s) (walk.steps bytes))));
    }

pub returns-then-not-has_address : goal.returns-then-not-has_address
returns-then-not-has_address g c =
    let v = c.args.geometry.now.layout in
    let s = claims_of c.args.workspace.now in
    let n = c.args.owner.now.number in
    let walk = rw c.requires.walk at c.restart.ensures.walk c.requires.class_is in
    let top = c.restart.ensures.top in
    let begins = c.restart.ensures.geometry ∙ c.requires.walk in
    let words = words_for (ap (λ k. k.layout) begins) c.claim_direct.ensures.claims in
    let none = claiming_none c.requires.claim in
    let image = (g.I.Image.device c.args.image.now).contents in
    let blocks = none.claim.ready.windows.blocks in
    let w = c.claim_direct.new.walk in
    let s' = claims_of c.claim_direct.new.workspace in
    let end = c.claim_direct.ensures.top in
    let over = λ (bytes : List ℕ). top_ends bytes w (grind arith) end.single end.double end.triple in
    let now : ForContents image
    (λ bytes. s' ≡ after_steps v s (steps_of v c.args.owner.now.inode.now bytes)) = λ bytes t.
    sym (ap (after_steps v s') (over bytes)) ∙ words.means.claims image blocks bytes t
    ∙ ap (after_steps v s) (walk.steps bytes) in
    record {
      text = of_same of_begins
          (λ bytes t. ap of_lines (sym (words.means.lines image blocks bytes t n ∙ ap (lines_of_steps v n s) (walk.steps bytes))
          ∙ ap (lines_of_steps v n s') (over bytes)));
      claims = now;
      image = refl;
      left = claiming_on (record { only = words.only; all_in_range = none.claim.all_in_range })
          (omega (arith, seen_bound c.args.workspace.now words.only.made words.uncut words.means.bound))
          words.means.bound none;
      walk = words.same.geometry ∙ begins;
      counted = omega (arith, words.rises);
      known = λ bytes t. omega arith;
      most = λ bytes t. omega (arith, ap (λ s. s.runs) (now bytes t));
    }

pub next-requires : goal.next-requires
next-requires g c = can_walk c.loop-next.invariant.geometry c.loop-next.invariant.left.claim.ready

pub returns-in_err-next : goal.returns-in_err-next
returns-in_err-next g c =
    let inv = c.loop-next.invariant in
    let err = c.in_err-next.ensures.leaves.read in
    let ready = ready_read {d' = g.I.Image.device c.next.new.image} err.contents err.size inv.geometry
    c.next.ensures.leaves.kept inv.left.claim.ready in
    rw (fails_with _ c.from_residual.ensures.1) (record {
      text = of_reads inv.said;
      claims = tt;
      image = rw inv.device at err;
      left = grind arith;
      walk = c.next.ensures.same.geometry ∙ inv.geometry;
      counted = omega (arith, inv.counted, (c.in_err-next.ensures.counted inv.held).most);
      known = λ bytes t. omega (arith, inv.indirect bytes t, (c.in_err-next.ensures.counted inv.held).most);
      most = λ bytes t. omega (
        arith,
        ap (λ s. s.runs) (inv.claims bytes t),
        steps_rise c.args.geometry.now.layout (claims_of c.loop-next.workspace) (steps_left bytes c.loop-next.scan.walk),
      );
    })

pub claim_step-requires : goal.claim_step-requires
claim_step-requires g c =
    let inv = c.loop-next.invariant in
    let read = claiming_walked c.in_ok-next.ensures.leaves.read inv.geometry c.next.ensures.leaves.kept inv.left in
    record {
      next = sees_next c.args.geometry.now.sound c.requires.begun read.claim.ready.ready.made read.claim.all_in_range
          inv.open_still read.claim_bound;
      length = (rw (inv.geometry, c.in-Some.is) at c.in_ok-next.ensures.step.fits).length;
    }

pub returns-in_err-seen : goal.returns-in_err-seen
returns-in_err-seen g c =
    let inv = c.loop-next.invariant in
    let v = c.args.geometry.now.layout in
    let s = claims_of c.loop-next.workspace in
    let read = claiming_walked c.in_ok-next.ensures.leaves.read inv.geometry c.next.ensures.leaves.kept inv.left in
    let next = rw (inv.device, c.in-Some.is) at c.in_ok-next.ensures.step.steps in
    let few = seen_bound c.args.workspace.now read.claim.ready.ready.made inv.open_still read.claim_bound in
    let paid = rw c.in-Some.is at (c.in_ok-next.ensures.counted inv.held).paid in
    rw (fails_with _ c.from_residual-in_err-seen.ensures.1) (record {
      text = of_stops _ _ _ _ _ _ _ _ inv.said (lines_on v _ s _ c.loop-next.scan.walk c.next.new.self
          c.in-Some.next next refl) c.in_err-seen.ensures.claims.said;
      claims = tt;
      image = c.in_ok-next.ensures.leaves.read ∙ inv.device;
      left = claiming_on c.claim_step.ensures.left
          (omega (arith, c.claim_step.ensures.claims.runs, step_most v s c.in-Some.next)) tt read;
      walk = c.in_ok-next.ensures.same.geometry ∙ inv.geometry;
      counted = omega (arith, paid, inv.counted, c.claim_step.ensures.claims.counted);
      known = λ bytes t. omega (
        arith,
        paid,
        inv.indirect bytes t,
        indirect_on v s c.loop-next.scan.walk c.next.new.self c.in-Some.next inv.open_still next refl bytes t,
      );
      most = λ bytes t. omega (
        arith,
        c.claim_step.ensures.claims.runs,
        steps_rise v (after_step v s c.in-Some.next) (steps_left bytes c.next.new.self),
        ap (λ xs. (after_steps v s xs).runs) (next bytes t),
        ap (λ s. s.runs) (inv.claims bytes t),
      );
    })

pub loop-next-preserved-then-matches : goal.loop-next-preserved-then-matches
loop-next-preserved-then-matches g c =
    let inv = c.loop-next.invariant in
    let v = c.args.geometry.now.layout in
    let s = claims_of c.loop-next.workspace in
    let read = claiming_walked c.in_ok-next.ensures.leaves.read inv.geometry c.next.ensures.leaves.kept inv.left in
    let same = c.in_ok-next.ensures.same.geometry ∙ inv.geometry in
    let reads = c.in_ok-next.ensures.counted inv.held in
    let image = c.in_ok-next.ensures.leaves.read ∙ inv.device in
    let is_gap : c.in-Some.next ≡ Gap = elim c.match-matches.branch [
      | in-Gap w ↦ w.in-Gap.is
      | in_default-matches w ↦ cc
    ] in
    let rest = λ (bytes : List ℕ). steps_left bytes c.skip_gaps.new.self in
    let gaps : ForContents (g.I.Image.device c.args.image.now).contents
    (λ bytes. steps_left bytes c.loop-next.scan.walk ≡ Gap ∷ replicate c.skip_gaps.result Gap ++ rest bytes) =
    λ bytes t. (rw (inv.device, c.in-Some.is, is_gap) at c.in_ok-next.ensures.step.steps) bytes t
    ∙ ap (λ xs. Gap ∷ xs) (c.skip_gaps.ensures.steps (g.I.Image.device c.next.new.image).contents
    (rw same read.claim.ready.windows.blocks) bytes (ap (λ d. d.contents) image ∙ t)) in
    record {
      device = image;
      left = read;
      open_still = inv.open_still;
      geometry = c.skip_gaps.ensures.same.geometry ∙ same;
      held = c.skip_gaps.ensures.counted.held _ reads.held;
      counted =
          let paid = rw (c.in-Some.is, is_gap) at reads.paid in
          omega (arith, paid, inv.counted, c.skip_gaps.ensures.counted.unread);
      indirect = λ bytes t.
          let paid = rw (c.in-Some.is, is_gap) at reads.paid in
          let unseen : indirect_in_steps v s (steps_left bytes c.loop-next.scan.walk)
          ≡ indirect_in_steps v s (rest bytes) = ap (indirect_in_steps v s) (gaps bytes t)
          ∙ gaps_unseen v s (suc c.skip_gaps.result) (rest bytes) in
          omega (arith, paid, inv.indirect bytes t, unseen, c.skip_gaps.ensures.counted.unread);
      claims = λ bytes t. sym (ap (after_steps v s) (gaps bytes t)
          ∙ (gaps_over v c.args.owner.now.number s c.skip_gaps.result (rest bytes)).0)
          ∙ inv.claims bytes t;
      said = of_same inv.said (λ bytes t.
          ap (λ xs. of_lines (lines_of_steps v c.args.owner.now.number s xs)) (gaps bytes t)
          ∙ ap of_lines (gaps_over v c.args.owner.now.number s c.skip_gaps.result (rest bytes)).1);
    }

pub claim_words-requires : goal.claim_words-requires
claim_words-requires g c =
    let inv = c.loop-next.invariant in
    let sound = c.args.geometry.now.sound in
    let left = c.claim_step.ensures.left in
    let now = c.in_ok-seen.ensures.claims in
    sees_for (sym (ap (λ k. k.layout) (c.in_ok-next.ensures.same.geometry ∙ inv.geometry)))
    (sees_next sound c.requires.begun left.only.made left.all_in_range (sym now.seen ∙ c.if-not-seen.false)
    (moves_on c.in-Some.next inv.left.claim.ready.ready.made sound.sizes.frag_high
    (rw (inv.geometry, c.in-Some.is) at c.in_ok-next.ensures.step.fits).length now.claims inv.left.claim_bound))

pub loop-next-preserved : goal.loop-next-preserved
loop-next-preserved g c =
    let inv = c.loop-next.invariant in
    let n = c.args.owner.now.number in
    let v = c.args.geometry.now.layout in
    let s = claims_of c.loop-next.workspace in
    let read = claiming_walked c.in_ok-next.ensures.leaves.read inv.geometry c.next.ensures.leaves.kept inv.left in
    let next = rw (inv.device, c.in-Some.is) at c.in_ok-next.ensures.step.steps in
    let walk = c.in_ok-next.ensures.same.geometry ∙ inv.geometry in
    let words = words_for (ap (λ k. k.layout) walk) c.claim_words.ensures in
    let reads = c.in_ok-next.ensures.counted inv.held in
    let paid = rw c.in-Some.is at reads.paid in
    let left = c.claim_step.ensures.left in
    let now = c.in_ok-seen.ensures.claims.claims in
    let claimed = ready_still left.only.made left.only.windows read.claim.ready in
    let moves = moves_then _ (claims_of c.claim_step.new.workspace) _
    (moves_on c.in-Some.next inv.left.claim.ready.ready.made c.args.geometry.now.sound.sizes.frag_high
    (rw (inv.geometry, c.in-Some.is) at c.in_ok-next.ensures.step.fits).length now inv.left.claim_bound) words.means.bound in
    let image = c.in_ok-next.ensures.leaves.read ∙ inv.device in
    let contents = (g.I.Image.device c.next.new.image).contents in
    let gives = ap (λ d. d.contents) image in
    record {
      device = image;
      left = claiming_on (record { only = only_then left.only words.only; all_in_range = left.all_in_range })
          (omega (arith, seen_bound c.args.workspace.now words.only.made words.uncut moves)) moves read;
      open_still = words.uncut;
      geometry = words.same.geometry ∙ walk;
      held = words.counted.held _ (rw (words.only.windows, left.only.windows) reads.held);
      counted = omega (arith, paid, inv.counted, c.claim_step.ensures.claims.counted, words.rises, words.counted.unread);
      indirect = λ bytes t. omega (
        arith,
        paid,
        inv.indirect bytes t,
        indirect_on v s c.loop-next.scan.walk c.next.new.self c.in-Some.next inv.open_still next now bytes t,
        words.means.indirect contents claimed.windows.blocks bytes (gives ∙ t),
        words.counted.unread,
      );
      claims = claims_on v s c.loop-next.scan.walk c.next.new.self _ c.in-Some.next next now inv.claims
          (λ bytes t. sym (words.means.claims contents claimed.windows.blocks bytes (gives ∙ t)));
      said = steps_said v n s (claims_of c.claim_step.new.workspace) c.loop-next.scan.walk c.next.new.self _ c.in-Some.next
          inv.said next now (λ bytes t. sym (words.means.lines contents claimed.windows.blocks bytes (gives ∙ t) n))
          c.in_ok-seen.ensures.claims.said;
    }

pub returns-then-not-seen : goal.returns-then-not-seen
returns-then-not-seen g c =
    let inv = c.loop-next.invariant in
    let v = c.args.geometry.now.layout in
    let s = claims_of c.loop-next.workspace in
    let s' = claims_of c.claim_step.new.workspace in
    let n = c.args.owner.now.number in
    let read = claiming_walked c.in_ok-next.ensures.leaves.read inv.geometry c.next.ensures.leaves.kept inv.left in
    let now = c.in_ok-seen.ensures.claims in
    let few = seen_bound c.args.workspace.now read.claim.ready.ready.made inv.open_still read.claim_bound in
    let cut : is_open s' ≡ false = sym now.seen ∙ c.if-not-seen.true in
    let next = rw (inv.device, c.in-Some.is) at c.in_ok-next.ensures.step.steps in
    let paid = rw c.in-Some.is at (c.in_ok-next.ensures.counted inv.held).paid in
    record {
      text = steps_said v n s s' c.loop-next.scan.walk c.next.new.self (λ bytes. []) c.in-Some.next inv.said next
          now.claims (λ bytes t. (cut_over v n s' (steps_left bytes c.next.new.self) cut).1)
          c.in_ok-seen.ensures.claims.said;
      claims = claims_on v s c.loop-next.scan.walk c.next.new.self (λ bytes. s') c.in-Some.next next now.claims
          inv.claims (λ bytes t. (cut_over v n s' (steps_left bytes c.next.new.self) cut).0);
      image = c.in_ok-next.ensures.leaves.read ∙ inv.device;
      left = claiming_on c.claim_step.ensures.left
          (omega (arith, c.claim_step.ensures.claims.runs, step_most v s c.in-Some.next))
          (moves_on c.in-Some.next inv.left.claim.ready.ready.made c.args.geometry.now.sound.sizes.frag_high
          (rw (inv.geometry, c.in-Some.is) at c.in_ok-next.ensures.step.fits).length now.claims inv.left.claim_bound)
          read;
      walk = c.in_ok-next.ensures.same.geometry ∙ inv.geometry;
      counted = omega (arith, paid, inv.counted, c.claim_step.ensures.claims.counted);
      known = λ bytes t. omega (
        arith,
        paid,
        inv.indirect bytes t,
        indirect_on v s c.loop-next.scan.walk c.next.new.self c.in-Some.next inv.open_still next now.claims bytes t,
      );
      most = λ bytes t. omega (
        arith,
        c.claim_step.ensures.claims.runs,
        steps_rise v (after_step v s c.in-Some.next) (steps_left bytes c.next.new.self),
        ap (λ xs. (after_steps v s xs).runs) (next bytes t),
        ap (λ s. s.runs) (inv.claims bytes t),
      );
    }

pub returns-in_default : goal.returns-in_default
returns-in_default g c =
    let inv = c.loop-next.invariant in
    let v = c.args.geometry.now.layout in
    let s = claims_of c.loop-next.workspace in
    let over = rw (inv.device, c.in_default.is) at c.in_ok-next.ensures.step.steps in
    record {
      text = of_same inv.said
          (λ bytes t. ap (λ xs. of_lines (lines_of_steps v c.args.owner.now.number s xs)) (over bytes t));
      claims = λ bytes t. sym (ap (after_steps v s) (over bytes t)) ∙ inv.claims bytes t;
      image = c.in_ok-next.ensures.leaves.read ∙ inv.device;
      left = claiming_walked c.in_ok-next.ensures.leaves.read inv.geometry c.next.ensures.leaves.kept inv.left;
      walk = c.in_ok-next.ensures.same.geometry ∙ inv.geometry;
      counted = omega (arith, rw c.in_default.is at (c.in_ok-next.ensures.counted inv.held).paid, inv.counted);
      known = λ bytes t. omega (
        arith,
        rw c.in_default.is at (c.in_ok-next.ensures.counted inv.held).paid,
        inv.indirect bytes t,
      );
      most = λ bytes t. omega (
        arith,
        ap (λ s. s.runs) (inv.claims bytes t),
        steps_rise v s (steps_left bytes c.loop-next.scan.walk),
      );
    }
