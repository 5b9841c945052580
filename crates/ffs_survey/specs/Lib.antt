-- What the contracts of a survey of directories cite. A survey goes over any reader of directories (`Directories`),
-- and sees no byte: ffs_names has the reader over an image. The public calls, what their clauses are, and in which
-- files:
--
--   survey_directories         FindsSurvey (`Levels`), KeepsLists and LeavesDirectories (`Lent`)
--   is_suspect, is_dead        suspect_at, dead_at (`Survey`)
--   Directories, the trait     LeavesReader (`Reading`), TakesReads (`Costs`)
--
-- Read first `Survey`, what a survey finds of each inode (IsSurvey), `Reading` and `Costs`, what a reader gives and
-- takes. Then, each on those before it: `Discover` has all lists of a survey at one moment (Found), and what
-- directories add to them, one after another; `Lists` is about the lengths of the lists, `Calm` about the
-- directories that are flagged; `Levels` puts these together (FindsSurvey); `Lent` says the same of the lists as they
-- are lent to a call (Lists, FoundLists), and what the calls within a survey need and leave.
pub mod Survey
pub mod Reading
pub mod Costs
pub mod Discover
pub mod Lists
pub mod Calm
pub mod Levels
pub mod Lent
