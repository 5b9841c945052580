use Rattle.std.{proofs.Common.{◌≡◌, ◌/◌, length}, specs.List.list_any}
use Rattle.ffs_volume.specs.{Directories.Graph.is_naming_entry, Encodings.Places.entries_in_chunks}
use Rattle.ffs_paths.{specs.Climbing.name_in, proofs.ChunkNames.entries_after}
use Rattle.ffs_paths.proofs.name.find_in_chunks.Given as goal

abbrev pub invariant-loop-chunk : goal.invariant-loop-chunk
invariant-loop-chunk l = let n = length l.bytes / 512 in record {
  name : name_in l.number (entries_in_chunks l.order n l.bytes)
      ≡ name_in l.number (entries_after l.order n l.bytes l.chunk-index);
  named : list_any (is_naming_entry l.number) (entries_in_chunks l.order n l.bytes)
      ≡ list_any (is_naming_entry l.number) (entries_after l.order n l.bytes l.chunk-index);
}
