use Rattle.ffs_tests.proofs.surveys.checked.Goals as goal

pub printed-end-requires : goal.printed-end-requires
printed-end-requires g c = record {
  made = c.in_ok-workspace.ensures.new.made;
  volume = c.requires;
}
