-- How many reads of the image a reading of a directory still takes, and how many a directory takes in all.
use Rattle.std.specs.Prelude.{◌≡◌, ℕ, ◌+◌, ◌<◌, ◌≤◌, ◌==◌, Bool, true, ◌&&◌, ◌||◌, nat_lt, if◌then◌else◌, List, ◌∷◌}
use Rattle.std.specs.{Prelude.Option, List.flat_map}
use Rattle.ffs_image.specs.Known.{ForBytes}
use Rattle.ffs_volume.specs.declared.{Class.Class, Inode.Inode, Layout.Layout, Step.{Step, TheVariants.Run}}
use Rattle.ffs_volume.specs.{Blocks.Inodes.class_of, Directories.Roles.{roled_chunk, roled_entries}}
use Rattle.ffs_volume.specs.{Directories.Volumes.volume_of, Report.Reads.sweep_reads}
use Rattle.ffs_volume.specs.Costs.DirectoryReads.{noted_directory_cost, noted_directories_cost}
use Rattle.ffs_layout.specs.declared.geometry.Geometry.{Geometry}
use Rattle.ffs_walk.specs.{Counts.{AreHeld, indirect_in_step, unread}, declared.{blocks.Blocks.Blocks, window.Window.Window}}
use Rattle.ffs_names.specs.{Readings.{rest, runs_after, runs_left, BeginsAt, Continues}, RunCursors.IsWhole}
use Rattle.ffs_names.specs.declared.{chunks.Chunks.Chunks, entries.Entries.Entries, run_cursor.RunCursor.RunCursor}

-- 1 where the current Run has chunks and is still to be read: none of them was given yet
abbrev pub unread_run : RunCursor → ℕ
unread_run cursor = if (cursor.next == 0) && nat_lt 0 cursor.count then 1 else 0

-- at most how many reads a reading of an image of these bytes still takes: the indirect blocks that
-- it is in, the current Run, and the Runs that it has still to look at
abbrev pub to_read : List ℕ → Chunks → ℕ
to_read b c = unread c.walk + (unread_run c.run_cursor + runs_left b c)

-- the window has the current Run, where a chunk of it was given and another is left
abbrev pub HoldsRun : Window → RunCursor → Type 0
HoldsRun w cursor = 0 < cursor.next → cursor.next < cursor.count → (w.place ≡ cursor.place) × (w.length ≡ cursor.length)

-- what a reading has read and needs again is held
pub record HoldsReading (blocks : Blocks) (w : Window) (c : Chunks) : Type 0 where
  pub frames : AreHeld blocks c.walk
  pub run : HoldsRun w c.run_cursor

-- a reading that begins, in a volume of this geometry, still takes a read for each Run that it may
-- look at, needs nothing that was read, and has given no chunk
pub record BeginsReads (g : Geometry) (c : Chunks) : Type 0 where
  pub geometry : c.walk.geometry ≡ g
  pub to_read : (b : List ℕ) → to_read b c ≡ runs_left b c
  pub held : (blocks : Blocks) (w : Window) → HoldsReading blocks w c
  pub first : c.run_cursor.next ≡ 0

-- it is one of the directory with this inode and this cut
pub record BeginsReading (g : Geometry) (inode : Inode) (cut : ℕ) (c : Chunks) : Type 0 where
  pub begins : BeginsAt g.layout inode cut c
  pub reads : BeginsReads g c

-- a reading begins, and if this is the inode's class, it is one of that directory
pub record BeginsByClass (g : Geometry) (inode : Inode) (class : Class) (cut : ℕ) (c : Chunks) : Type 0 where
  pub begins : class ≡ class_of g.layout inode → BeginsAt g.layout inode cut c
  pub reads : BeginsReads g c

-- a Run is seen: the reading continues with the steps after it. The walk stays, and the Run takes
-- one read at most: it is an indirect block, or it has chunks
pub record SeesRun (old new : Chunks) (start len : ℕ) (block : Option ℕ) : Type 0 where
  pub continues : (b : List ℕ) (steps : List Step) → Continues b old (Run start len block ∷ steps) new steps
  pub walk : new.walk ≡ old.walk
  pub reads : (steps : List Step) → unread_run new.run_cursor + (indirect_in_step (Run start len block) + runs_after new steps)
      ≤ runs_after old (Run start len block ∷ steps)
  pub whole : IsWhole new.run_cursor

-- a chunk may still come, or a hole may still be looked for
abbrev pub may_read : Entries → Bool
may_read r = r.right_so_far || nat_lt 0 r.chunks.chunks_left

-- at most how many reads a reading of entries still takes
abbrev pub reads_for_entries : List ℕ → Entries → ℕ
reads_for_entries b r = if may_read r then to_read b r.chunks else 0

-- what a reading of entries has read and needs again is held
abbrev pub HoldsEntries : Blocks → Window → Entries → Type 0
HoldsEntries blocks w r = may_read r ≡ true → HoldsReading blocks w r.chunks

-- a call reads no more often than all directories take in a sweep, by the bytes that are known, and
-- any image no more often than a sweep may
pub record SweepsOnce (v : Layout) (knows : List ℕ → Type 0) (reads reads' : ℕ) : Type 0 where
  pub each : ForBytes knows (λ b. reads' ≤ reads + noted_directories_cost v b)
  pub most : reads' ≤ reads + sweep_reads v

-- a reading of the chunks of the directory d begins. It takes no more reads than are left of those
-- that the directory takes
pub record BeginsChunks (v : Layout) (b : List ℕ) (d reads reads' : ℕ) (c : Chunks) : Type 0 where
  pub chunks : flat_map roled_chunk (rest b c) ≡ roled_entries (volume_of v b) d
  pub within : reads' + to_read b c ≤ reads + noted_directory_cost v b d
