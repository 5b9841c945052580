use Rattle.ffs_tests.proofs.claims.check_blocks.Goals as goal

pub phase1-requires : goal.phase1-requires
phase1-requires g c = record { ready = c.requires }

pub phase1b-requires : goal.phase1b-requires
phase1b-requires g c = record { ready = c.in_ok-phase1.ensures.ready }
