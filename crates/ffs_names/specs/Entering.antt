-- The entries that a reading of a directory has still to give.
use Rattle.std.specs.{Prelude.{ℕ, List, ◌≡◌, ◌<◌, ◌≤◌, ◌++◌, ◌+◌, ◌-◌, ◌*◌, ◌/◌, Option}, List.flat_map}
use Rattle.ffs_image.specs.Device.{ForContents}
use Rattle.ffs_volume.specs.{Disk.Numbers.piece, Directories.{Entries.entries_from, Roles.{RoledEntry, roled_from}}}
use Rattle.ffs_volume.specs.{Directories.Roles.roled_chunk, declared.constants.TheConstants.{DIRBLKSIZ, DIRENT_HEADER}}
use Rattle.ffs_names.specs.{Readings.rest, RunCursors.last_place, declared.entries.Entries.Entries}

-- the entries to come of the current chunk
abbrev pub left_in_chunk : Entries → List RoledEntry
left_in_chunk r = roled_from r.at_start r.index (entries_from r.order r.chunk 64 r.place)

-- all entries to come: those of the current chunk, and those of the chunks to come in an image of
-- these bytes
abbrev pub to_come : List ℕ → Entries → List RoledEntry
to_come b r = left_in_chunk r ++ flat_map roled_chunk (rest b r.chunks)

-- at most how many entries are to come, whatever the image holds: 64 of 8 bytes for each chunk
abbrev pub most_to_come : Entries → ℕ
most_to_come r = 64 * r.chunks.chunks_left + (DIRBLKSIZ - r.place) / DIRENT_HEADER

-- the name of the entry that it gave last
abbrev pub last_name : Entries → List ℕ
last_name r = piece r.name_place r.name_len r.chunk

-- the current chunk is what an image of these bytes has at its place
abbrev pub IsHeld : List ℕ → Entries → Type 0
IsHeld b r = r.chunk ≡ piece (last_place r.chunks.run_cursor) DIRBLKSIZ b

-- the current chunk is held so, if an entry of it may still come
abbrev pub IsHeldIfLeft : List ℕ → Entries → Type 0
IsHeldIfLeft b r = r.place < DIRBLKSIZ → IsHeld b r

-- the current chunk is in the volume
abbrev pub IsInside : Entries → Type 0
IsInside r =
    last_place r.chunks.run_cursor + DIRBLKSIZ
    ≤ r.chunks.walk.geometry.layout.size * r.chunks.walk.geometry.layout.fsize

-- an entry was given. Its chunk lies in the volume, and is what an image of these contents has there;
-- the same is supposed of the chunk before, if an entry of it might still come
pub record GivesFromChunk (contents : Option (List ℕ)) (old new : Entries) : Type 0 where
  pub held : ForContents contents (λ b. IsHeldIfLeft b old → IsHeld b new)
  pub inside : (old.place < DIRBLKSIZ → IsInside old) → IsInside new
