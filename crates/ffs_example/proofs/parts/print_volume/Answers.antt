use Rattle.ffs_example.proofs.parts.print_volume.Goals as goal

pub print_phases-requires : goal.print_phases-requires
print_phases-requires g c = record {
  made = c.in-Ok.ensures.new.made;
  volume = c.requires;
}
