-- The chunk at the start of a directory, as its chunks are read.
use Rattle.std.specs.{Prelude.{◌==◌, Bool, if◌then◌else◌, List, ℕ, Option, Some}, List.find}
use Rattle.ffs_volume.specs.{declared.Order.Order, Directories.Entries.{Chunk, chunk_of}}

-- the one that was found, or else the first of those to come
abbrev pub start_chunk : List Chunk → Bool → Order → List ℕ → Option Chunk
start_chunk cs started order start = if started then Some (chunk_of order 0 start) else find (λ c. c.offset == 0) cs
