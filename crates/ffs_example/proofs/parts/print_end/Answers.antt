use Rattle.ffs_example.proofs.parts.print_end.Goals as goal

pub print_rest-requires : goal.print_rest-requires
print_rest-requires g c = record {
  made = c.in-Ok.ensures.new.made;
  volume = c.requires;
}
