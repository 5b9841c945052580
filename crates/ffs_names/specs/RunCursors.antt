-- The chunks of the current Run.
use Rattle.std.specs.{Prelude.{◌≡◌, ◌⊎◌, ℕ, ◌+◌, ◌-◌, ◌*◌, ◌≤◌, List, [], map, Option}, List.range_with_len}
use Rattle.ffs_image.specs.Device.{ForContents}
use Rattle.ffs_volume.specs.{declared.Layout.Layout, Disk.Numbers.piece, Directories.Entries.{Chunk, ChunkSource}}
use Rattle.ffs_volume.specs.{Directories.Entries.{chunk_of, run_chunks}, declared.constants.TheConstants.DIRBLKSIZ}
use Rattle.ffs_names.specs.{declared.run_cursor.RunCursor.RunCursor, Fits.CursorFits}

-- the chunks of the current Run, in an image of these bytes
abbrev pub cursor_chunks : Layout → List ℕ → RunCursor → List Chunk
cursor_chunks v b cursor = map
    (λ k. chunk_of v.order (cursor.offset + DIRBLKSIZ * k) (piece (cursor.place + DIRBLKSIZ * k) DIRBLKSIZ b))
    (range_with_len cursor.next (cursor.count - cursor.next))

-- how a directory is read in an image of these bytes, where this many bytes of it are
abbrev pub reading_by : Layout → List ℕ → ℕ → ChunkSource
reading_by v b bytes_to_read =
    record { order = v.order; image = b; bsize = v.bsize; fsize = v.fsize; read_bytes = bytes_to_read }

-- a cursor over no chunks, in a volume of any layout
pub record HasNoChunks (cursor : RunCursor) : Type 0 where
  pub none : (v : Layout) (b : List ℕ) → cursor_chunks v b cursor ≡ []
  pub next : cursor.next ≡ cursor.count
  pub first : cursor.next ≡ 0
  pub fits : (v : Layout) → CursorFits v cursor

-- the chunks of a Run of this logical block are still to come, where this many bytes are read
pub record BeginsRun (v : Layout) (bytes_to_read start len block : ℕ) (cursor : RunCursor) : Type 0 where
  pub chunks : (b : List ℕ) → cursor_chunks v b cursor ≡ run_chunks (reading_by v b bytes_to_read) start len
      (block * v.bsize)
  pub first : cursor.next ≡ 0
  pub fits : CursorFits v cursor

-- where in the image the chunk is that was given last, in bytes
abbrev pub last_place : RunCursor → ℕ
last_place cursor = cursor.place + DIRBLKSIZ * (cursor.next - 1)

-- a chunk is what an image of these contents has at that place, in the volume
pub record IsGivenChunk (v : Layout) (contents : Option (List ℕ)) (cursor : RunCursor) (chunk : List ℕ) : Type 0 where
  pub bytes : ForContents contents (λ b. chunk ≡ piece (last_place cursor) DIRBLKSIZ b)
  pub inside : last_place cursor + DIRBLKSIZ ≤ v.size * v.fsize

-- none of the chunks of the current Run was given yet, or all were
abbrev pub IsWhole : RunCursor → Type 0
IsWhole cursor = (cursor.next ≡ 0) ⊎ (cursor.next ≡ cursor.count)

-- the chunk that was given is the first one of its Run, or it follows the one that was given before
abbrev pub StepsOn : (old new : RunCursor) → Type 0
StepsOn old new = (new.next ≡ 1) ⊎ ((new.place ≡ old.place) × (new.next ≡ old.next + 1))
