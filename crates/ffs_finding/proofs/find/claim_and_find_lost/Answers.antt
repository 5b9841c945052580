use Rattle.std.proofs.{Common.{arith, inl, refl}, lemmas.Result.err_from_is_err_and}
use Rattle.ffs_layout.specs.Super.{superblock_in}
use Rattle.ffs_check.specs.Moment.{moment}
use Rattle.ffs_finding.specs.declared.request.Target.TheVariants.{Lost}
use Rattle.ffs_finding.proofs.{ClaimTargets.{claimed_fails, claimed_knows, lost_fails, unclaimed_found}, Targets.all_knowing}
use Rattle.ffs_finding.proofs.find.claim_and_find_lost.Goals as goal

pub returns-in_err-workspace-clause-answer : goal.returns-in_err-workspace-clause-answer
returns-in_err-workspace-clause-answer g c = λ sector.
    let p = err_from_is_err_and c.from_residual.result c.from_residual.ensures.1 in
    let made = c.in_err-workspace.ensures in
    rw (p.1, p.2) (unclaimed_found Lost sector (superblock_in c.args.superblock.now)
    (moment g.I.Image g.W.Output c.args.image.now c.args.out.now) _
    (g.I.Image.reads c.claimed_workspace.new.image) _ _ c.in_err-workspace.field-0.0 (λ at. inl refl)
    (omega (arith, made.reads)) made.takes)

pub returns-in_err-workspace-clause-memory : goal.returns-in_err-workspace-clause-memory
returns-in_err-workspace-clause-memory g c = grind arith

pub returns-in_err-find_lost-clause-answer : goal.returns-in_err-find_lost-clause-answer
returns-in_err-find_lost-clause-answer g c = λ sector.
    let p = err_from_is_err_and c.from_residual-in_err-find_lost.result
    c.from_residual-in_err-find_lost.ensures.1 in
    let made = c.in_ok-workspace.ensures in
    let found = rw (made.takes.0) at c.in_err-find_lost.ensures.prints in
    let before = moment g.I.Image g.W.Output c.args.image.now c.args.out.now in
    let after = moment g.I.Image g.W.Output c.find_lost.new.image c.find_lost.new.out in
    rw (p.1, p.2) (claimed_fails Lost sector (superblock_in c.args.superblock.now) before
    c.in_ok-workspace.workspace _ after c.in_err-find_lost.field-0.0
    (lost_fails sector (superblock_in c.args.superblock.now) before _ c.in_ok-workspace.workspace _ after
    c.in_err-find_lost.field-0.0 made.takes.0 made.reads made.takes.3 c.in_err-find_lost.ensures.before_fault)
    (omega (arith, made.reads, c.find_lost.ensures.reads)) made.takes.3 found.found)

pub returns-in_err-find_lost-clause-memory : goal.returns-in_err-find_lost-clause-memory
returns-in_err-find_lost-clause-memory g c = grind arith

pub returns-clause-answer : goal.returns-clause-answer
returns-clause-answer g c = λ sector.
    let made = c.in_ok-workspace.ensures in
    let found = rw (made.takes.0) at c.in_ok-find_lost.ensures.prints in
    record {
      answer = (
        found.found.image,
        all_knowing
            (claimed_knows Lost sector (superblock_in c.args.superblock.now)
            (moment g.I.Image g.W.Output c.args.image.now c.args.out.now) c.in_ok-workspace.workspace made.takes.3)
            (record { printed = found.found.text; defect_is = found.any }),
      );
      grounds = tt;
      reads = omega (arith, made.reads, c.find_lost.ensures.reads);
    }

pub returns-clause-memory : goal.returns-clause-memory
returns-clause-memory g c = c.in_ok-workspace.ensures.takes.1
