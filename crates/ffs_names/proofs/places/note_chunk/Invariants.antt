use Rattle.std.proofs.Common.{◌≡◌, ◌-◌, List, ℕ, false, vec_len}
use Rattle.ffs_volume.specs.Directories.{Entries.entries_of, Roles.roled_from}
use Rattle.ffs_names.specs.{EntriesToCome.entries_to_come, Noting.NotesChunk}
use Rattle.ffs_names.proofs.places.note_chunk.Given as goal

abbrev pub invariant-entries : goal.invariant-entries
invariant-entries l = record {
  long : vec_len l.words ≡ vec_len l.fn.words;
  noted : (new : List ℕ) →
      NotesChunk l.parents.items l.words.items new l.dir l.place (roled_from false 0 (entries_to_come l.entries)) →
      NotesChunk l.parents.items l.fn.words.items new l.dir l.place
      (roled_from false 0 (entries_of l.fn.order l.chunk));
}

abbrev pub decreases-entries : goal.decreases-entries
decreases-entries l = 512 - l.entries.place
