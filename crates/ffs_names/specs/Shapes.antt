-- What a reading of a directory shows of its shape.
use Rattle.std.specs.Prelude.{◌≡◌, ◌<◌, ◌≤◌, ◌^◌, ℕ, ◌+◌, ◌==◌, Bool, true, false, not, ◌&&◌, ◌||◌, List, [], ◌∷◌}
use Rattle.std.specs.{Prelude.{sum_by, Option, is_some, MatchOption, IfNone}, List.flat_map}
use Rattle.ffs_volume.specs.{declared.{Class.Class, Layout.Layout, Inode.Inode}, Blocks.Inodes.class_of}
use Rattle.ffs_volume.specs.{Blocks.Steps.steps_of, declared.constants.TheConstants.DIRBLKSIZ}
use Rattle.ffs_volume.specs.Directories.{Entries.{entries_from, entry_at, has_gap}, Roles.roled_chunk}
use Rattle.ffs_volume.specs.{Directories.PathnameCheck.are_sound, Encodings.Replay.{fresh_replay, replayed_steps}}
use Rattle.ffs_volume.specs.{Encodings.ReplayCounts.replayed_runs, Costs.Calm.is_right_size}
use Rattle.ffs_layout.specs.declared.geometry.Geometry.{Geometry}
use Rattle.ffs_walk.specs.declared.{blocks.Blocks.Blocks, window.Window.Window}
use Rattle.ffs_survey.specs.{declared.entry_head.EntryHead.EntryHead, Reading.{roled_of, SkipsEmpty}}
use Rattle.ffs_names.specs.{Readings.{IsEnded, rest, gap_left, chunks_in, runs_left}}
use Rattle.ffs_names.specs.Entering.{to_come, last_name, most_to_come}
use Rattle.ffs_names.specs.{Costs.{reads_for_entries, HoldsEntries}, declared.entries.Entries.Entries}

-- the entries of the current chunk fill it
abbrev pub fills : Entries → Bool
fills r = r.place + sum_by (λ e. e.length) (entries_from r.order r.chunk 64 r.place) == DIRBLKSIZ

-- the shape is right, by what was seen and what is still to come in an image of these bytes
abbrev pub has_right_shape : List ℕ → Entries → Bool
has_right_shape b r =
    (r.right_so_far && fills r) && (are_sound (rest b r.chunks) && not (r.chunks.gap || gap_left b r.chunks))

-- no chunk is left, and the entries of the current one fill it
pub record HasEnded (b : List ℕ) (r : Entries) : Type 0 where
  pub chunks : rest b r.chunks ≡ []
  pub current : fills r ≡ true

-- a reading gives the entries of the directory with this inode and this cut, and shows its shape, of an
-- image of these bytes
pub record GivesDirectory (v : Layout) (b : List ℕ) (inode : Inode) (cut : ℕ) (r : Entries) : Type 0 where
  pub entries : to_come b r ≡ flat_map roled_chunk (chunks_in v b inode cut)
  pub shape : has_right_shape b r
      ≡ (is_right_size inode.size && (are_sound (chunks_in v b inode cut)
      && not (has_gap (replayed_steps v cut fresh_replay (steps_of v inode b)))))

-- how many Runs of that directory are seen
abbrev pub runs_of_inode : Layout → List ℕ → Inode → ℕ → ℕ
runs_of_inode v b inode cut = replayed_runs v cut fresh_replay (steps_of v inode b)

-- a reading of the directory with this inode and this cut begins, before its first chunk. No Run was
-- looked at, it takes a read for each that is seen, and needs nothing that was read
pub record BeginsDirectory (v : Layout) (inode : Inode) (cut : ℕ) (r : Entries) : Type 0 where
  pub gives : (b : List ℕ) → inode.size < 2 ^ 31 → GivesDirectory v b inode cut r
  pub place : r.place ≡ DIRBLKSIZ
  pub runs : r.chunks.runs ≡ 0
  pub runs_left : (b : List ℕ) → runs_left b r.chunks ≡ runs_of_inode v b inode cut
  pub to_read : (b : List ℕ) → reads_for_entries b r ≤ runs_of_inode v b inode cut
  pub held : (blocks : Blocks) (w : Window) → HoldsEntries blocks w r

-- it begins so in a volume of this geometry
pub record BeginsIn (g : Geometry) (inode : Inode) (cut : ℕ) (r : Entries) : Type 0 where
  pub begins : BeginsDirectory g.layout inode cut r
  pub geometry : r.chunks.walk.geometry ≡ g

-- it begins in a volume of this geometry, and if this is the inode's class, it is one of that directory
pub record RestartsIn (g : Geometry) (inode : Inode) (class : Class) (cut : ℕ) (r : Entries) : Type 0 where
  pub begins : class ≡ class_of g.layout inode → BeginsDirectory g.layout inode cut r
  pub geometry : r.chunks.walk.geometry ≡ g

-- nothing of the chunks is left to come, in the same volume, and how many Runs were looked at stays
pub record EndsChunks (old new : Entries) : Type 0 where
  pub ended : IsEnded new.chunks
  pub only : new.only_chunk ≡ true
  pub geometry : new.chunks.walk.geometry ≡ old.chunks.walk.geometry
  pub runs : new.chunks.runs ≡ old.chunks.runs

-- no entry comes any more of a reading in a volume of this geometry; it shows no right shape, and
-- takes no read
pub record HasStopped (g : Geometry) (r : Entries) : Type 0 where
  pub entries : (b : List ℕ) → to_come b r ≡ []
  pub shape : (b : List ℕ) → has_right_shape b r ≡ false
  pub reads : (b : List ℕ) → reads_for_entries b r ≡ 0
  pub held : (blocks : Blocks) (w : Window) → HoldsEntries blocks w r
  pub left : most_to_come r ≡ 0
  pub geometry : r.chunks.walk.geometry ≡ g

-- the first of the entries to come in an image of these bytes was read; the answer is None where
-- there is none, and then none comes any more
pub record GivesEntry (b : List ℕ) (old new : Entries) (answer : Option EntryHead) : Type 0 where
  pub entries : MatchOption answer (to_come b old ≡ [])
      (λ head. to_come b old ≡ roled_of head (last_name new) ∷ to_come b new)
  pub shape : has_right_shape b new ≡ has_right_shape b old
  pub ended : IfNone answer (HasEnded b new)
  pub over : IfNone answer (to_come b new ≡ [])

-- no entry is left in the current chunk, and the reading is as it was
pub record IsChunkOver (old new : Entries) : Type 0 where
  pub same : new ≡ old
  pub left : is_some (entry_at new.order new.chunk new.place) ≡ false

-- the next entry of the current chunk was taken, so fewer are left
pub record TakesEntry (old new : Entries) (head : EntryHead) : Type 0 where
  pub entries : (b : List ℕ) → to_come b old ≡ roled_of head (last_name new) ∷ to_come b new
  pub left : most_to_come new < most_to_come old
  pub place : old.place < DIRBLKSIZ

-- what taking an entry of the current chunk leaves as it was
pub record IsSameChunk (old new : Entries) : Type 0 where
  pub chunks : new.chunks ≡ old.chunks
  pub chunk : new.chunk ≡ old.chunk
  pub right_so_far : new.right_so_far ≡ old.right_so_far
  pub fills : fills new ≡ fills old

-- the next entry of the current chunk was taken, if one is left, and all else of the reading is as it was
pub record TakesFromChunk (old new : Entries) (answer : Option EntryHead) : Type 0 where
  pub taken : MatchOption answer (IsChunkOver old new) (TakesEntry old new)
  pub same : IsSameChunk old new

-- so many empty entries, which came next in the current chunk, were passed over, and all else of the reading
-- is as it was
pub record SkipsEmptyEntries (old new : Entries) (count : ℕ) : Type 0 where
  pub skips : (b : List ℕ) → SkipsEmpty count (to_come b old) (to_come b new)
  pub left : most_to_come new + count ≤ most_to_come old
  pub same : IsSameChunk old new
  pub name : last_name new ≡ last_name old
