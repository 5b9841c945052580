use Rattle.std.proofs.Common.{refl, sym}
use Rattle.ffs_layout.specs.Super.{superblock_in}
use Rattle.ffs_check.specs.Moment.{moment}
use Rattle.ffs_finding.proofs.{CopySteps.same_super, Targets.answered}
use Rattle.ffs_finding.proofs.find.find_in_volume.Goals as goal

pub returns-in-Ok-clause-finds : goal.returns-in-Ok-clause-finds
returns-in-Ok-clause-finds g c =
    let d = g.I.Image.device c.args.image.now in
    let super = c.in-Ok.superblock in
    let opened = c.in-Ok.ensures in
    let read = same_super refl opened.answer in
    answered c.args.target c.args.sector (superblock_in super) d _ _ _
    (moment g.I.Image g.W.Output c.find_in_accepted.new.image c.find_in_accepted.new.out) _ _ _
    (λ b k. sym (read.1 b k)) super.geometry.sound opened.inside_or_unreadable opened.reads
    (rw (read.0) at c.find_in_accepted.ensures.answer)
    c.find_in_accepted.ensures.memory
