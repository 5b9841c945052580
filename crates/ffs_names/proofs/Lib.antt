-- What the lemmas on directories are about, file by file.
--
-- The chunks of a directory:
--   Continuing    how a reading of chunks continues, and that its windows can be read into from read to read
--   ReadCounts    the reads that are still to come of a reading of chunks
--   Advances      how it goes from step to step: over Tails and Gaps, and past each Run that is seen
--   RunChunks     the chunks of one Run, and how those of the current Run are given one after another
--   Begins        a reading of a directory begins
--   OneChunks     a directory of one chunk is known by where its only block is
--   NotedDirs     what is noted of a directory says how a reading of it begins: at its only chunk, or with its cut
--
-- Its entries:
--   Stepping      the entries of a chunk, one after another
--   Skipped       empty entries that are passed over, one after another
--   Entered       how a reading of entries continues
--   EntryCounts   the reads that are still to come of a reading of entries
--   Shaped        how the shape of a directory shows itself as its chunks are read
--   DirLaws       a reading gives the entries that the volume has there
--   DirCosts      the reads that a directory takes
--
-- All directories:
--   RunSums       a replay sees the Runs that the block check sees: so a bound on the reads of all directories
--   Limits        they take no more reads than a sweep
--   SameGraphs    entries count only where they are those of a directory
--   SurveyHolds   a survey fills a workspace
--   CalmDirLaws   it flags each directory of which nothing can be reported
--   PlacesNoted   what is noted of places, entry by entry, chunk by chunk and directory by directory
--   InParts       the entries of the parts of an image in which the chunks of a directory's Run are
pub mod Continuing
pub mod ReadCounts
pub mod Advances
pub mod RunChunks
pub mod Begins
pub mod Entered
pub mod Shaped
pub mod Stepping
mod Skipped
pub mod EntryCounts
pub mod DirLaws
pub mod DirCosts
mod OneChunks
mod NotedDirs
pub mod RunSums
pub mod SameGraphs
pub mod SurveyHolds
pub mod PlacesNoted
pub mod InParts
pub mod Limits
pub mod CalmDirLaws
