-- What the contracts of a walk over the blocks of an inode cite. Which steps an inode has, and its class, is in the
-- book (`Blocks/Steps`, `Blocks/Inodes` of ffs_volume). The public calls, what their clauses are, and in which
-- files:
--
--   Walk::next                          TakesStep (`Rests`)
--   Walk::start, of_class, restart      IsWalkOf, IsWalkByClass (`Rests`)
--   Walk::skip_gaps                     PassesGaps (`Skips`)
--   Walk::pass_word, pass_direct        PassesNextWord (`HeldWords`), PassesDirect (`Directs`)
--   Keeping::start, take                IsFreshKeeping, ReplaysRun (`Keepings`)
--   SeenRuns::start, next               AreRunsOf, GivesRun (`SeenRuns`)
--   Window::fill, Blocks::fill          FillsWindow, FillsBlock (`Windows`)
--   class_of, has_steps and their like  of the book
--
-- `Windows` says what the buffers hold, `Keepings` which steps are kept. A walk has a frame for each level of
-- indirect blocks that it is in: `Frames` is about what a frame has left, `Fits` about how it fits into the walk,
-- `Lengths` about what holds of each step, `Counts` about the indirect blocks that are still to be read. `Rests`, on
-- all of these, has the steps that a walk has left. By it others pass over many steps at once: `Skips` over gaps,
-- `HeldWords` over the words of a single indirect block that is held, `Directs` over direct addresses.
-- `SeenRuns` has the Runs alone, each with how many of its offers are kept, until the inode is cut.
pub mod Windows
pub mod Keepings
pub mod Frames
pub mod Fits
pub mod Lengths
pub mod Counts
pub mod Rests
pub mod Skips
pub mod HeldWords
pub mod Directs
pub mod SeenRuns
