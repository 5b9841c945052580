use Rattle.std.proofs.{Common.{arith}, lemmas.Result.err_from_is_err_and}
use Rattle.ffs_layout.specs.Super.{superblock_in}
use Rattle.ffs_check.specs.Moment.{moment}
use Rattle.ffs_finding.{specs.declared.request.Target.TheVariants.Owner}
use Rattle.ffs_finding.proofs.{ClaimTargets.{claimed_fails, fails_anywhere, unclaimed_found}, Owners.owner_reads_most}
use Rattle.ffs_maps.specs.Bits.{bits_of}
use Rattle.ffs_finding.proofs.find.claim_and_find_owner.Goals as goal

pub returns-in_err-workspace-clause-answer : goal.returns-in_err-workspace-clause-answer
returns-in_err-workspace-clause-answer g c = λ sector.
    let p = err_from_is_err_and c.from_residual.result c.from_residual.ensures.1 in
    let made = c.in_err-workspace.ensures in
    rw (p.1, p.2) (unclaimed_found (Owner c.args.fragment) sector (superblock_in c.args.superblock.now)
    (moment g.I.Image g.W.Output c.args.image.now c.args.out.now) _
    (g.I.Image.reads c.claimed_workspace.new.image) _ _ c.in_err-workspace.field-0.0 (λ at. tt)
    (omega (arith, made.reads)) made.takes)

pub returns-in_err-workspace-clause-memory : goal.returns-in_err-workspace-clause-memory
returns-in_err-workspace-clause-memory g c = grind arith

pub returns-in_err-find_owner-clause-answer : goal.returns-in_err-find_owner-clause-answer
returns-in_err-find_owner-clause-answer g c = λ sector.
    let p = err_from_is_err_and c.from_residual-in_err-find_owner.result
    c.from_residual-in_err-find_owner.ensures.1 in
    let made = c.in_ok-workspace.ensures in
    let found = rw (made.takes.0) at c.in_err-find_owner.ensures.prints in
    rw (p.1, p.2) (claimed_fails (Owner c.args.fragment) sector (superblock_in c.args.superblock.now)
    (moment g.I.Image g.W.Output c.args.image.now c.args.out.now) c.in_ok-workspace.workspace _
    (moment g.I.Image g.W.Output c.find_owner.new.image c.find_owner.new.out) c.in_err-find_owner.field-0.0
    (fails_anywhere c.in_err-find_owner.field-0.0) (omega (
      arith,
      made.reads,
      c.find_owner.ensures.reads,
      owner_reads_most c.args.superblock.now.geometry.layout (bits_of c.in_ok-workspace.workspace.used) c.args.fragment,
    ))
    made.takes.3 found)

pub returns-in_err-find_owner-clause-memory : goal.returns-in_err-find_owner-clause-memory
returns-in_err-find_owner-clause-memory g c = grind arith

pub returns-clause-answer : goal.returns-clause-answer
returns-clause-answer g c = grind (arith, owner_reads_most)

pub returns-clause-memory : goal.returns-clause-memory
returns-clause-memory g c = c.in_ok-workspace.ensures.takes.1
