-- What the lemmas on a walk are about, file by file.
--
-- Numbers:
--   Powers      blocks and fragments have sizes that are powers of two: a shift divides, a mask gives the remainder
--   Sizes       products of sizes and numbers of blocks have room in 64 bits, and addresses are few
--   Ranges      the first number of a range, and the others
--
-- Words and blocks:
--   AnySet      whether an address isn't zero: of all, and of those from an index on, by a bit for each
--   WordBytes   a word isn't zero where one of its bytes isn't, in either byte order
--   Areas       a block in range lies in the volume
--   Splices     blocks of which one is read anew
--
-- Steps:
--   FrameSteps  what a frame has still to give, where its next word is taken
--   WordSteps   the step at the next word of the single indirect block that a walk is in
--   GapSteps    words of zero are gaps, at every level
--   WalkSteps   the steps of a file at each level of indirect blocks, and of a walk that has nothing left there
--   Counted     the reads that are still to come of a walk
--   ReplayedRuns  the Runs of an inode that is walked over again, one after another
pub mod AnySet
pub mod Powers
pub mod WordBytes
pub mod Areas
pub mod FrameSteps
pub mod Ranges
pub mod WalkSteps
pub mod Sizes
pub mod Splices
pub mod GapSteps
pub mod WordSteps
pub mod Counted
pub mod ReplayedRuns
