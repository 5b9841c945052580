-- What the lemmas on a survey are about, file by file.
--
-- What a reading of directories finds:
--   Remaining       reading on changes no final result: what was found, and what is still to be read
--   Discovered      what an entry, a directory and a level discover
--   Skipping        nothing that is found depends on empty entries that are passed over
--   Totals          sums over a list of directories and over all of them, and the count over entries
--   Lending         what a call leaves of the lists and of the reader, which are lent
--   Costs           the costs of directories: some of them, and all
--
-- Level after level:
--   Queues          what is in the queue: the current level, the next one, and what is after them
--   NextLevel       a level in the queue, and the next one, once what was discovered is sorted
--   Frontiers       what is on each level, how they begin, and what is known where none is left
--   UnreachedLaws   the directories that aren't reached, which are read after the others
--
-- Calm directories:
--   CalmLaws        those that are called calm are calm, and stay so
--   ReadOnce        each reached directory is read once, when no child of it is reached: so each calm one has a flag
--
-- For the proofs of the crates above:
--   ParentLaws      the parent of a reached directory is one level nearer to inode 2
pub mod Remaining
mod Discovered
mod Frontiers
mod Totals
mod Skipping
mod Queues
mod NextLevel
mod UnreachedLaws
mod Lending
pub mod CalmLaws
pub mod ReadOnce
pub mod Costs
pub mod ParentLaws
