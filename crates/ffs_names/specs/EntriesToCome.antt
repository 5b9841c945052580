-- The entries of a chunk that are still to come.
use Rattle.std.specs.Prelude.{ℕ, ◌≡◌, ◌+◌, Bool, List, Option, None, Some}
use Rattle.ffs_volume.specs.Directories.{Entries.{Entry, entries_from, entry_at}, Roles.{RoledEntry, roled_from}}
use Rattle.ffs_layout.specs.{Entry.IsEntryAt, declared.entry.Entry.Entry as CodeEntry}
use Rattle.ffs_names.specs.declared.chunk_entries.ChunkEntries.{ChunkEntries}

-- the entries that are still to come
abbrev pub entries_to_come : ChunkEntries → List Entry
entries_to_come es = entries_from es.order es.chunk.now 64 es.place

-- the same with their roles; `at_start` says that the chunk is at the start of the file
abbrev pub roled_to_come : (at_start : Bool) → ChunkEntries → List RoledEntry
roled_to_come at_start es = roled_from at_start es.index (entries_to_come es)

-- the entry at the place is given, with its index; those after it are still to come
pub record GivesWithIndex (old : ChunkEntries) (given : ℕ × CodeEntry) (new : ChunkEntries) : Type 0 where
  pub there : IsEntryAt old.order old.chunk.now old.place (Some given.1)
  pub index_is : given.0 ≡ old.index
  pub same : (new.order ≡ old.order) × (new.chunk ≡ old.chunk)
  pub place : new.place ≡ old.place + given.1.length
  pub index : new.index ≡ old.index + 1

-- the next entry is given, and None where none is left
abbrev pub GivesNextEntry : ChunkEntries → Option (ℕ × CodeEntry) → ChunkEntries → Type 0
GivesNextEntry old None new = (entry_at old.order old.chunk.now old.place ≡ None) × (new ≡ old)
GivesNextEntry old (Some given) new = GivesWithIndex old given new
