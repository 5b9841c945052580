-- What the contracts of readers of directories cite, in the order to read it: each file rests on those before it. The
-- public calls, what their clauses are, and in which files:
--
--   Chunks::next                GivesChunk (`Readings`), NextChunkLeaves (`Leaves`)
--   Entries::next               GivesEntry and HasStopped (`Shapes`), LeavesEntries (`Leaves`)
--   Entries::has_right_shape    has_right_shape (`Shapes`), LeavesBlocks (`Leaves`)
--   ChunkEntries                GivesNextEntry (`EntriesToCome`), as an iterator
--   gap_of                      LooksForGap (`Leaves`)
--   survey                      IsSurveyed and SurveyLeaves (`Surveys`), FlagsEachCalm (`CalmDirs`), SweepsOnce
--                               (`Costs`)
--   note_places                 HoldsPlaces and NotingLeaves (`Noting`), SweepsOnce (`Costs`); after a fault
--                               HoldsSurvey of ffs_workspace
--
-- The chunks of a directory: `Windows` says when they can be read, `Fits` where a Run lies. `RunCursors` has the chunks
-- of the current Run that are still to come, and `Readings` those of the directory. `OneChunk` is about a directory of
-- one chunk, and `Costs` says how many reads a reading still takes.
--
-- Its entries: `EntriesToCome` has those of a chunk that are still to come, `Entering` those of the directory, and
-- `Shapes` says what a reading shows of the directory's shape. `Leaves` is what calls leave that read chunks or
-- entries, and `RunsAreSeen` that the Runs which they look at are those of the block check.
--
-- All directories: `Readers` what the survey of ffs_survey goes over, `CalmDirs` which flags it sets, `Surveys` what
-- it finds and leaves, and `Noting` the places of parent entries.
pub mod Windows
pub mod Fits
pub mod RunCursors
pub mod Readings
pub mod OneChunk
pub mod Costs
pub mod EntriesToCome
pub mod Entering
pub mod Shapes
pub mod Leaves
pub mod RunsAreSeen
pub mod Readers
pub mod CalmDirs
pub mod Surveys
pub mod Noting
