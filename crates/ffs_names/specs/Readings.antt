-- What a reading of a directory has still to give.
use Rattle.std.specs.Prelude.{◌≡◌, ◌⊎◌, ◌<◌, ◌≤◌, ◌^◌, ℕ, ◌+◌, ◌-◌, Bool, true, false, ◌||◌, Result, List, [], ◌∷◌, ◌++◌}
use Rattle.std.specs.Prelude.{take, Option, MatchOption, OnErr, OnOk}
use Rattle.ffs_volume.specs.{declared.{Layout.Layout, Inode.Inode, Step.Step}, Disk.Areas.is_run_in_range}
use Rattle.ffs_volume.specs.{Blocks.Steps.steps_of, Directories.Entries.{Chunk, chunk_of, chunks_of, has_gap}}
use Rattle.ffs_volume.specs.{Directories.Entries.bytes_read, Encodings.Replay.{is_replay_open, fresh_replay}}
use Rattle.ffs_volume.specs.{Encodings.{Replay.replayed_steps, ReplayCounts.replayed_runs}, Laws.RunLengths.HasLength}
use Rattle.ffs_walk.specs.{Keepings.replay_in, Rests.{IsOver, most_steps_left, steps_left}}
use Rattle.ffs_image.specs.{Device.ForContents, declared.image.ImageFault.ImageFault}
use Rattle.ffs_names.specs.{RunCursors.{cursor_chunks, reading_by}, declared.chunks.Chunks.Chunks}

-- the chunks of steps to come
abbrev pub chunks_after : List ℕ → Chunks → List Step → List Chunk
chunks_after b c steps =
    chunks_of (reading_by c.walk.geometry.layout b c.bytes_to_read) (is_run_in_range c.walk.geometry.layout)
    (replayed_steps c.walk.geometry.layout c.keeping.cut (replay_in c.keeping) steps)

-- the chunks of the current Run, and of the steps to come
abbrev pub all_chunks : List ℕ → Chunks → List Chunk
all_chunks b c = cursor_chunks c.walk.geometry.layout b c.run_cursor ++ chunks_after b c (steps_left b c.walk)

-- the chunks that a reading has still to give, of an image of these bytes
abbrev pub rest : List ℕ → Chunks → List Chunk
rest b c = take c.chunks_left (all_chunks b c)

-- the Runs that a reading has still to look at, of the steps to come
abbrev pub runs_after : Chunks → List Step → ℕ
runs_after c steps = replayed_runs c.walk.geometry.layout c.keeping.cut (replay_in c.keeping) steps

abbrev pub runs_left : List ℕ → Chunks → ℕ
runs_left b c = runs_after c (steps_left b c.walk)

-- a Gap is among the kept ones of the steps to come
abbrev pub gap_after : Chunks → List Step → Bool
gap_after c steps = has_gap (replayed_steps c.walk.geometry.layout c.keeping.cut (replay_in c.keeping) steps)

abbrev pub gap_left : List ℕ → Chunks → Bool
gap_left b c = gap_after c (steps_left b c.walk)

-- a reading has seen all its steps: it has no chunk left, and no hole still to see
pub record HasSeenAll (b : List ℕ) (c : Chunks) : Type 0 where
  pub chunks : all_chunks b c ≡ []
  pub gap : gap_left b c ≡ false

-- no chunk of a reading is left, no hole was seen, and no step of its walk is left
pub record IsEnded (c : Chunks) : Type 0 where
  pub walk : IsOver c.walk
  pub cursor : c.run_cursor.next ≡ c.run_cursor.count
  pub chunks_left : c.chunks_left ≡ 0
  pub gap : c.gap ≡ false

-- at most how many steps a reading has still to see and chunks of the current Run to give, whatever
-- the image holds
abbrev pub ahead : Chunks → ℕ
ahead c = most_steps_left c.walk + (c.run_cursor.count - c.run_cursor.next)

-- the sum of a count and of what is still to be counted: it stays where a u64 has room for it, and
-- never rises
pub record CountsOn (before after : ℕ) : Type 0 where
  pub most : after ≤ before
  pub all : before < 2 ^ 64 → after ≡ before

-- a call leaves what no reading changes, and how many chunks may still come; the count of Runs doesn't fall
pub record IsSame (old new : Chunks) : Type 0 where
  pub geometry : new.walk.geometry ≡ old.walk.geometry
  pub cut : new.keeping.cut ≡ old.keeping.cut
  pub bytes_to_read : new.bytes_to_read ≡ old.bytes_to_read
  pub chunks_left : new.chunks_left ≡ old.chunks_left
  pub runs : old.runs ≤ new.runs

-- a Run can be seen next: it has its length, the replay is open, and no chunk of the current Run is left
pub record CanSee (c : Chunks) (run : Step) : Type 0 where
  pub length : HasLength c.walk.geometry.layout.frag run
  pub seen : is_replay_open c.keeping.cut (replay_in c.keeping) ≡ true
  pub empty : c.run_cursor.next ≡ c.run_cursor.count

-- a reading of an image of these bytes with these steps to come continues as one that has these
pub record Continues (b : List ℕ) (old : Chunks) (before : List Step) (new : Chunks) (after : List Step) : Type 0 where
  pub chunks : cursor_chunks new.walk.geometry.layout b new.run_cursor ++ chunks_after b new after
      ≡ cursor_chunks old.walk.geometry.layout b old.run_cursor ++ chunks_after b old before
  pub runs : CountsOn (old.runs + runs_after old before) (new.runs + runs_after new after)
  pub gap : (new.gap || gap_after new after) ≡ (old.gap || gap_after old before)

-- it continues by its own walk
abbrev pub ContinuesTo : List ℕ → (old new : Chunks) → Type 0
ContinuesTo b old new = Continues b old (steps_left b old.walk) new (steps_left b new.walk)

-- no more Runs are counted and to be counted than before
abbrev pub CountsNoMore : List ℕ → (old new : Chunks) → Type 0
CountsNoMore b old new = new.runs + runs_left b new ≤ old.runs + runs_left b old

-- each Run that was looked at is counted
abbrev pub CountsEach : List ℕ → (old new : Chunks) → Type 0
CountsEach b old new = CountsOn (old.runs + runs_left b old) (new.runs + runs_left b new)

-- the count of Runs never falls in a call: each that is looked at is counted, and after a fault no more of them
-- are counted and to be counted than before. Where a fault left a chunk of the current Run to be given, so that
-- the read of that Run failed, each that was looked at is counted then too
pub record CountsRuns {T : Type 0} (contents : Option (List ℕ)) (old new : Chunks) (result : Result T ImageFault) :
    Type 0 where
  pub rises : old.runs ≤ new.runs
  pub each : OnOk result (ForContents contents (λ b. CountsEach b old new))
  pub fault : OnErr result (ForContents contents (λ b. CountsNoMore b old new))
  pub chunk : OnErr result (new.run_cursor.next < new.run_cursor.count
      → ForContents contents (λ b. CountsEach b old new))

-- no chunk of a reading comes any more, and all else of it stays
pub record StopsChunks (old new : Chunks) : Type 0 where
  pub chunks_left : new.chunks_left ≡ 0
  pub walk : new.walk ≡ old.walk
  pub keeping : new.keeping ≡ old.keeping
  pub bytes_to_read : new.bytes_to_read ≡ old.bytes_to_read
  pub run_cursor : new.run_cursor ≡ old.run_cursor
  pub runs : new.runs ≡ old.runs
  pub gap : new.gap ≡ old.gap

-- a Run with a chunk left was found, and fewer steps are left than steps and chunks were before: it
-- is the current Run still, or no chunk of it was given yet; else all is seen of an image of these
-- contents
pub record FindsNextRun (contents : Option (List ℕ)) (old new : Chunks) (found : Bool) : Type 0 where
  pub more : found ≡ true → new.run_cursor.next < new.run_cursor.count
  pub falls : found ≡ true → most_steps_left new.walk < ahead old
  pub run : found ≡ true → (new.run_cursor ≡ old.run_cursor) ⊎ (new.run_cursor.next ≡ 0)
  pub none : found ≡ false → ForContents contents (λ b. HasSeenAll b new)

-- a chunk was read of those to come in an image of these bytes; the answer is its place in the
-- file, and None where there is none
pub record GivesChunk (b : List ℕ) (to_come : Chunks → List Chunk) (old new : Chunks)
    (chunk : List ℕ) (answer : Option ℕ) : Type 0 where
  pub chunks : MatchOption answer ((to_come old ≡ []) × (to_come new ≡ []))
      (λ offset. to_come old ≡ chunk_of old.walk.geometry.layout.order offset chunk ∷ to_come new)
  pub gap : (new.gap || gap_left b new) ≡ (old.gap || gap_left b old)

-- the chunks of a directory with this inode and this cut
abbrev pub chunks_in : Layout → List ℕ → Inode → ℕ → List Chunk
chunks_in v b inode cut =
    chunks_of (reading_by v b (bytes_read inode.size)) (is_run_in_range v)
    (replayed_steps v cut fresh_replay (steps_of v inode b))

-- a reading of that directory begins
pub record BeginsAt (v : Layout) (inode : Inode) (cut : ℕ) (c : Chunks) : Type 0 where
  pub chunks : (b : List ℕ) → inode.size < 2 ^ 31 → rest b c ≡ chunks_in v b inode cut
  pub runs : c.runs ≡ 0
  pub runs_left : (b : List ℕ) → runs_left b c ≡ replayed_runs v cut fresh_replay (steps_of v inode b)
  pub gap : c.gap ≡ false
  pub gap_left : (b : List ℕ) → gap_left b c ≡ has_gap (replayed_steps v cut fresh_replay (steps_of v inode b))
