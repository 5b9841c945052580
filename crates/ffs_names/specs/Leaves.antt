-- What calls do and leave that read a directory, and how often they read the image.
use Rattle.std.specs.Prelude.{◌≡◌, ℕ, ◌+◌, ◌<◌, ◌≤◌, Bool, true, ◌||◌, List, [], None, Ok, Result, OnOk, vec_len}
use Rattle.std.specs.Prelude.{IfNone, IfOk, IfSome, MatchOption, MatchResult, OnErr, Option, if◌then◌else◌, is_some}
use Rattle.ffs_image.specs.{Device.{Device, ForContents}, Reads.ReadAfter, declared.image.Image.Ghosts}
use Rattle.ffs_image.specs.declared.image.ImageFault.{ImageFault}
use Rattle.ffs_walk.specs.declared.{blocks.Blocks.Blocks, window.Window.Window}
use Rattle.ffs_walk.specs.{Rests.most_steps_left, Windows.WindowHolds}
use Rattle.ffs_survey.specs.{Costs.TakesReads, declared.entry_head.EntryHead.EntryHead}
use Rattle.ffs_names.specs.{Costs.{to_read, unread_run, HoldsReading, HoldsRun}, Entering.{most_to_come, GivesFromChunk}}
use Rattle.ffs_names.specs.Readings.{gap_left, rest, CountsRuns, HasSeenAll, IsSame}
use Rattle.ffs_names.specs.{RunCursors.{IsGivenChunk, StepsOn}, Windows.{CanReadChunks, CanWalkDir}}
use Rattle.ffs_names.specs.declared.{chunks.Chunks.Chunks, entries.Entries.Entries, run_cursor.RunCursor.RunCursor}

-- In these moments `image` is the image, and `reads` how often it was read by then. In a contract the I that
-- makes one is I.Image: what the type of the image gives to contracts.

-- a moment at which a Run is read into a window
pub record WindowMoment : Type 0 where
  pub image : Device
  pub reads : ℕ
  pub window : Window

abbrev pub window_moment : {S : Type 0} → Ghosts S → S → Window → WindowMoment
window_moment I image window = record { image = I.device image; reads = I.reads image; window = window }

-- a moment of a walk over the blocks of a directory
pub record WalkMoment : Type 0 where
  pub image : Device
  pub reads : ℕ
  pub blocks : Blocks
  pub chunks : Chunks

abbrev pub walk_moment : {S : Type 0} → Ghosts S → S → Blocks → Chunks → WalkMoment
walk_moment I image blocks chunks =
    record { image = I.device image; reads = I.reads image; blocks = blocks; chunks = chunks }

-- a moment of a reading of a directory, by chunks or by entries: `window` is that of its chunks
pub record ReadingMoment (R : Type 0) : Type 0 where
  pub image : Device
  pub reads : ℕ
  pub blocks : Blocks
  pub window : Window
  pub reading : R

abbrev pub reading_moment : {S R : Type 0} → Ghosts S → S → Blocks → Window → R → ReadingMoment R
reading_moment I image blocks window reading = record {
  image = I.device image;
  reads = I.reads image;
  blocks = blocks;
  window = window;
  reading = reading;
}

-- what a call leaves that reads a chunk of a Run: a window with the room that it had, which holds
-- what the image gives, and the Run too, where a chunk of it is left. The Run is read once, and where
-- another reading has used the window since, once more in each call
pub record LeavesRun {T : Type 0} (cursor : RunCursor) (old new : WindowMoment) (result : Result T ImageFault) : Type 0
  where
    pub room : vec_len new.window.buffer ≡ vec_len old.window.buffer
    pub holds : WindowHolds new.image.contents new.window
    pub read : ReadAfter old.image new.image result
    pub counted : HoldsRun old.window cursor → new.reads ≤ old.reads + unread_run cursor
    pub any : new.reads ≤ old.reads + 1
    pub held : OnOk result (cursor.next + 1 < cursor.count → (new.window.place ≡ cursor.place)
        × (new.window.length ≡ cursor.length))

-- whatever the image and its windows hold, a call reads at most once for each step of the walk that it
-- takes, and `more` times beside
abbrev pub ReadsBySteps : (reads reads' : ℕ) → (old new : Chunks) → (more : ℕ) → Type 0
ReadsBySteps reads reads' old new more =
    reads' + most_steps_left new.walk ≤ reads + most_steps_left old.walk + more

-- what a call leaves that moves on to a Run, or looks for holes: it can walk on, and only reads the
-- image, at most as often as the reading may
pub record LeavesWalk {T : Type 0} (old new : WalkMoment) (result : Result T ImageFault) : Type 0 where
  pub same : IsSame old.chunks new.chunks
  pub ready : CanWalkDir old.chunks.walk.geometry.layout new.image new.blocks
  pub read : ReadAfter old.image new.image result
  pub counted : (w : Window) → HoldsReading old.blocks w old.chunks → ForContents old.image.contents (λ b. TakesReads
      old.reads new.reads (to_read b old.chunks) (to_read b new.chunks) (HoldsReading new.blocks w new.chunks) result)
  pub any : ReadsBySteps old.reads new.reads old.chunks new.chunks 1

-- a call that moves on to a Run, and finds one, reads for the steps of the walk alone
abbrev pub ReadsForSteps : (old new : WalkMoment) → Result Bool ImageFault → Type 0
ReadsForSteps old new result =
    IfOk result (λ found. found ≡ true → ReadsBySteps old.reads new.reads old.chunks new.chunks 0)

-- a call looks for a hole among the kept steps of a directory: those that a reading of its chunks has
-- seen, and those that are left. Asked again it answers the same, and no chunk comes where none was left,
-- nor after a fault
pub record LooksForGap (old new : WalkMoment) (result : Result Bool ImageFault) : Type 0 where
  pub gap : IfOk result (λ g. ForContents old.image.contents (λ b. g ≡ (old.chunks.gap || gap_left b old.chunks)))
  pub again : IfOk result (λ g. ForContents old.image.contents (λ b. g ≡ (new.chunks.gap || gap_left b new.chunks)))
  pub none : OnOk result (ForContents old.image.contents (λ b. rest b old.chunks ≡ [] → rest b new.chunks ≡ []))
  pub fault : OnErr result ((b : List ℕ) → HasSeenAll b new.chunks)
  pub runs : CountsRuns old.image.contents old.chunks new.chunks result
  pub leaves : LeavesWalk old new result

-- the bytes into which a call reads the next chunk stay, where it gives none and where a read failed
abbrev pub StaysUngiven : (old new : List ℕ) → Result (Option ℕ) ImageFault → Type 0
StaysUngiven old new result = MatchResult result (λ o. IfNone o (new ≡ old)) (λ _. new ≡ old)

-- what a call leaves that reads a chunk
pub record LeavesChunks {T : Type 0} (old new : ReadingMoment Chunks) (result : Result T ImageFault) : Type 0 where
  pub same : IsSame old.reading new.reading
  pub runs : CountsRuns old.image.contents old.reading new.reading result
  pub ready : CanReadChunks old.reading.walk.geometry.layout new.image new.blocks new.window
  pub read : ReadAfter old.image new.image result
  pub any : ReadsBySteps old.reads new.reads old.reading new.reading 1

-- what a call leaves that gives the next chunk, if there is one: where that is in the image, how many Runs
-- were looked at, and how many chunks may still come. These are one fewer after a chunk and none after a
-- fault, and where none may come nothing is read. One read is for the chunk, or for the walk where it ends
pub record NextChunkLeaves (old new : ReadingMoment Chunks) (chunk : List ℕ) (result : Result (Option ℕ) ImageFault) : Type 0
  where
    pub geometry : new.reading.walk.geometry ≡ old.reading.walk.geometry
    pub ready : CanReadChunks old.reading.walk.geometry.layout new.image new.blocks new.window
    pub read : ReadAfter old.image new.image result
    pub place : IfOk result (λ o. IfSome o (λ _.
        IsGivenChunk old.reading.walk.geometry.layout old.image.contents new.reading.run_cursor chunk))
    pub steps : IfOk result (λ o. IfSome o (λ _. StepsOn old.reading.run_cursor new.reading.run_cursor))
    pub runs : CountsRuns old.image.contents old.reading new.reading result
    pub chunks_left : MatchResult result (λ o. MatchOption o (new.reading.chunks_left ≡ old.reading.chunks_left)
        (λ _. new.reading.chunks_left + 1 ≡ old.reading.chunks_left)) (λ _. new.reading.chunks_left ≡ 0)
    pub over : old.reading.chunks_left ≡ 0 → (result ≡ Ok None) × (new.reads ≤ old.reads)
    pub any : ReadsBySteps old.reads new.reads old.reading new.reading 1

-- at most how many steps of its walk and how many chunks a reading has left, whatever the image holds
abbrev pub most_left : Chunks → ℕ
most_left c = most_steps_left c.walk + c.chunks_left

-- what a call leaves that gives the next entry, if there is one: that is in a chunk of the image, and fewer
-- may come after it. Each Run that was looked at is counted. Whatever the image and its windows hold, at most
-- one read is for each step of the walk and for each chunk that the call takes, and one more where it gives
-- no entry
pub record LeavesEntries (old new : ReadingMoment Entries) (result : Result (Option EntryHead) ImageFault) : Type 0 where
  pub geometry : new.reading.chunks.walk.geometry ≡ old.reading.chunks.walk.geometry
  pub ready : CanReadChunks old.reading.chunks.walk.geometry.layout new.image new.blocks new.window
  pub read : ReadAfter old.image new.image result
  pub place : IfOk result (λ o. IfSome o (λ _. GivesFromChunk old.image.contents old.reading new.reading))
  pub left : IfOk result (λ o. IfSome o (λ _. most_to_come new.reading < most_to_come old.reading))
  pub runs : CountsRuns old.image.contents old.reading.chunks new.reading.chunks result
  pub most : new.reads ≤ old.reads + most_left old.reading.chunks + 1
  pub any : IfOk result (λ o. new.reads + most_left new.reading.chunks
      ≤ old.reads + most_left old.reading.chunks + (if is_some o then 0 else 1))

-- what a call leaves that walks on, but for how often it reads an image of known bytes: what no reading
-- changes, how many chunks may still come, none after a fault, and how many Runs were looked at
pub record LeavesBlocks {T : Type 0} (old new : WalkMoment) (result : Result T ImageFault) : Type 0 where
  pub geometry : new.chunks.walk.geometry ≡ old.chunks.walk.geometry
  pub cut : new.chunks.keeping.cut ≡ old.chunks.keeping.cut
  pub bytes_to_read : new.chunks.bytes_to_read ≡ old.chunks.bytes_to_read
  pub chunks_left : MatchResult result (λ _. new.chunks.chunks_left ≡ old.chunks.chunks_left) (λ _. new.chunks.chunks_left ≡ 0)
  pub runs : CountsRuns old.image.contents old.chunks new.chunks result
  pub ready : CanWalkDir old.chunks.walk.geometry.layout new.image new.blocks
  pub read : ReadAfter old.image new.image result
  pub any : ReadsBySteps old.reads new.reads old.chunks new.chunks 1
