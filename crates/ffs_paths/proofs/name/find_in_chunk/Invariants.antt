use Rattle.std.{proofs.Common.{◌≡◌, ◌-◌, false}, specs.List.list_any}
use Rattle.ffs_volume.specs.Directories.{Entries.entries_of, Roles.roled_from, Graph.is_naming_entry}
use Rattle.ffs_names.specs.EntriesToCome.{roled_to_come}
use Rattle.ffs_paths.specs.Climbing.{name_in}
use Rattle.ffs_paths.proofs.name.find_in_chunk.Given as goal

abbrev pub invariant-entries : goal.invariant-entries
invariant-entries l = record {
  chunk : l.entries.chunk.now ≡ l.chunk;
  name : name_in l.number (roled_from false 0 (entries_of l.fn.order l.chunk))
      ≡ name_in l.number (roled_to_come false l.entries);
  named : list_any (is_naming_entry l.number) (roled_from false 0 (entries_of l.fn.order l.chunk))
      ≡ list_any (is_naming_entry l.number) (roled_to_come false l.entries);
}

abbrev pub decreases-entries : goal.decreases-entries
decreases-entries l = 512 - l.entries.place
