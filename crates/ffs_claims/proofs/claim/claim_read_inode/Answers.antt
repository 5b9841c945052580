use Rattle.std.proofs.Common.{arith, refl, [], ap, ◌∙◌, ◌≡◌, sym}
use Rattle.ffs_volume.{proofs.Potentials.kept_bound, specs.Blocks.{Claims.{after_steps, at_next_inode}, Steps.steps_of}}
use Rattle.ffs_volume.specs.{Costs.VolumeReads.indirect_in_steps, declared.Class.TheVariants.Free}
use Rattle.ffs_volume.proofs.Results.{fails_with}
use Rattle.ffs_report.proofs.Reporting.{of_fault, of_says, of_stops, says_none}
use Rattle.ffs_maps.proofs.Bits.{bits_long}
use Rattle.ffs_workspace.specs.Holds.{claims_of}
use Rattle.ffs_claims.proofs.{Frames.{ready_begun, ready_stored, stay}, Inodes.{begun, begun_runs, steps_rise, stored_runs}}
use Rattle.ffs_claims.proofs.Inodes.{steps_reported, class_said, class_stopped, free_steps, used_below}
use Rattle.ffs_claims.{proofs.claim.claim_read_inode.Goals.{in-Free, in_default}}
use Rattle.ffs_claims.proofs.claim.claim_read_inode.Goals as goal

pub say_count-requires : goal.say_count-requires
say_count-requires g c =
    let b = begun c.args.workspace.now c.clear_counts.ensures c.requires.can.runs in
    let made = c.claim_steps.ensures.left.claim.ready.ready.made in
    omega (
      arith,
      c.args.geometry.now.sound.numbers.size_below,
      kept_bound (claims_of c.clear_counts.new.workspace) (claims_of c.claim_steps.new.workspace) c.args.geometry.now.layout.size
          (bits_long c.claim_steps.new.workspace.used ∙ made.used) (omega arith) (omega arith) b.kept
          c.in_ok-claim_steps.ensures.left.claim_bound,
    )

pub claim_steps-requires : goal.claim_steps-requires
claim_steps-requires g c = grind arith

pub returns-in_err-say_class-clause-claims : goal.returns-in_err-say_class-clause-claims
returns-in_err-say_class-clause-claims g c =
    let ready = ready_begun c.clear_counts.ensures c.requires.can.claim.ready in
    let few = used_below ready.ready.made in
    let b = begun_runs c.args.workspace.now c.clear_counts.ensures in
    rw (fails_with _ c.from_residual.ensures.1) (record {
      text = class_stopped _ _ _ (claims_of c.args.workspace.now) c.requires.class_is c.in_err-say_class.ensures;
      claims = tt;
      left = grind (arith, stay);
      known = λ bytes t. omega arith;
      most = λ bytes t. omega (
        arith,
        b.seen,
        steps_rise c.args.geometry.now.layout (at_next_inode (claims_of c.args.workspace.now))
            (steps_of c.args.geometry.now.layout c.args.owner.now.inode.now bytes),
      );
    })

pub returns-in_err-claim_steps-clause-claims : goal.returns-in_err-claim_steps-clause-claims
returns-in_err-claim_steps-clause-claims g c =
    let v = c.args.geometry.now.layout in
    let s1 = claims_of c.clear_counts.new.workspace in
    let b = begun_runs c.args.workspace.now c.clear_counts.ensures in
    let left = c.claim_steps.ensures.left in
    rw (fails_with _ c.from_residual-in_err-claim_steps.ensures.1) (record {
      text = of_fault (Unit {0}) (Unit {0}) _ _ _ _ _ _ _ _ _
          (class_said v _ _ (claims_of c.args.workspace.now) (ap claims_of c.clear_counts.ensures) c.requires.class_is
          c.in_ok-say_class.ensures) (λ bytes t. refl) c.in_err-claim_steps.ensures.text;
      claims = tt;
      left = grind (arith, stay);
      known = λ bytes t. omega (
        arith,
        c.claim_steps.ensures.known bytes t,
        ap (λ s. indirect_in_steps v s (steps_of v c.args.owner.now.inode.now bytes)) (ap claims_of c.clear_counts.ensures),
      );
      most = λ bytes t. omega (
        arith,
        c.claim_steps.ensures.most bytes t,
        ap (λ s. (after_steps v s (steps_of v c.args.owner.now.inode.now bytes)).runs) (ap claims_of c.clear_counts.ensures),
      );
    })

pub returns-in_err-say_count-clause-claims : goal.returns-in_err-say_count-clause-claims
returns-in_err-say_count-clause-claims g c =
    let v = c.args.geometry.now.layout in
    let b = begun_runs c.args.workspace.now c.clear_counts.ensures in
    let left = c.claim_steps.ensures.left in
    rw (fails_with _ c.from_residual-in_err-say_count.ensures.1) (record {
      text = of_stops _ _ (λ bytes. []) _ _ _ _ _ (steps_reported v _ _ (claims_of c.args.workspace.now)
          (ap claims_of c.clear_counts.ensures) c.requires.class_is c.in_ok-say_class.ensures
          c.in_ok-claim_steps.ensures.text c.in_ok-claim_steps.ensures.claims) (λ bytes t. refl)
          c.in_err-say_count.ensures;
      claims = tt;
      left = grind (arith, stay);
      known = λ bytes t. omega (
        arith,
        c.claim_steps.ensures.known bytes t,
        ap (λ s. indirect_in_steps v s (steps_of v c.args.owner.now.inode.now bytes)) (ap claims_of c.clear_counts.ensures),
      );
      most = λ bytes t. omega (
        arith,
        c.claim_steps.ensures.most bytes t,
        ap (λ s. (after_steps v s (steps_of v c.args.owner.now.inode.now bytes)).runs) (ap claims_of c.clear_counts.ensures),
      );
    })

pub returns-clause-claims : goal.returns-clause-claims
returns-clause-claims g c =
    let v = c.args.geometry.now.layout in
    let b = begun_runs c.args.workspace.now c.clear_counts.ensures in
    let s = stored_runs c.claim_steps.new.workspace c.store-2.ensures.same in
    let zero = begun c.args.workspace.now c.clear_counts.ensures c.requires.can.runs in
    let left = c.claim_steps.ensures.left in
    let ready = ready_stored c.store-2.ensures.stored c.store-2.ensures.same left.claim.ready in
    let m = c.in_ok-claim_steps.ensures.left.claim_bound in
    record {
      text = of_says {rest' = λ bytes. []} (steps_reported v _ _ (claims_of c.args.workspace.now)
          (ap claims_of c.clear_counts.ensures) c.requires.class_is c.in_ok-say_class.ensures
          c.in_ok-claim_steps.ensures.text c.in_ok-claim_steps.ensures.claims) (λ bytes t. refl)
          c.in_ok-say_count.ensures;
      claims = λ bytes t. ap claims_of c.store-2.ensures.same ∙ c.in_ok-claim_steps.ensures.claims bytes t
          ∙ ap (λ s. after_steps v s (steps_of v c.args.owner.now.inode.now bytes)) (ap claims_of c.clear_counts.ensures);
      left = grind (arith, stay);
      known = λ bytes t. omega (
        arith,
        c.claim_steps.ensures.known bytes t,
        ap (λ s. indirect_in_steps v s (steps_of v c.args.owner.now.inode.now bytes)) (ap claims_of c.clear_counts.ensures),
      );
      most = λ bytes t. omega (
        arith,
        s.seen,
        c.claim_steps.ensures.most bytes t,
        ap (λ s. (after_steps v s (steps_of v c.args.owner.now.inode.now bytes)).runs) (ap claims_of c.clear_counts.ensures),
      );
    }

pub returns-then-matches-clause-claims : goal.returns-then-matches-clause-claims
returns-then-matches-clause-claims g c =
    let v = c.args.geometry.now.layout in
    let old = claims_of c.args.workspace.now in
    let is_free : c.args.owner.now.class ≡ Free = elim c.match-matches.branch [
      | in-Free w ↦ w.in-Free.is
      | in_default w ↦ cc
    ] in
    let free = sym c.requires.class_is ∙ is_free in
    let begun = ready_begun c.clear_counts.ensures c.requires.can.claim.ready in
    let ready = ready_stored c.store.ensures.stored c.store.ensures.same begun in
    let few = used_below begun.ready.made in
    let b = begun_runs c.args.workspace.now c.clear_counts.ensures in
    let s = stored_runs c.clear_counts.new.workspace c.store.ensures.same in
    record {
      text = says_none (λ bytes t. rw (free, free_steps v _ bytes free) refl);
      claims = λ bytes t. ap claims_of c.store.ensures.same ∙ ap claims_of c.clear_counts.ensures
          ∙ sym (ap (after_steps v (at_next_inode old)) (free_steps v _ bytes free));
      left = grind (arith, stay);
      known = λ bytes t. omega arith;
      most = λ bytes t. omega (
        arith,
        b.seen,
        s.seen,
        steps_rise v (at_next_inode old) (steps_of v c.args.owner.now.inode.now bytes),
      );
    }
