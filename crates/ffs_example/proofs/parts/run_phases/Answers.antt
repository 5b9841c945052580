use Rattle.std.proofs.Common.{arith}
use Rattle.ffs_example.proofs.parts.run_phases.Goals.{then-has_dups+in_ok-phase1b, else-has_dups}
use Rattle.ffs_example.proofs.parts.run_phases.Goals as goal

-- after phase 1, and phase 1b where it ran
pub survey-requires : goal.survey-requires
survey-requires g c = elim c.if-has_dups.branch [
  | then-has_dups+in_ok-phase1b w ↦ rw (w.image-is, w.workspace-is) w.in_ok-phase1b.ensures.ready
  | else-has_dups w ↦ rw (w.image-is, w.workspace-is) c.in_ok-phase1.ensures.ready
]

pub path_of-requires : goal.path_of-requires
path_of-requires g c = record {
  ready = c.forget_windows.ensures.forgets c.args.superblock.now.geometry.layout _ c.in_ok-phase5.ensures.ready;
  number = omega arith;
}
