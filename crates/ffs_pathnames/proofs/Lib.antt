-- What the lemmas on phase 2 are about, file by file.
--
-- Names that were passed:
--   StampLaws         stamps, where one word changes
--   PassedLaws        what is reported by these names is what the book's pathname check reports
--   BetweenLaws       what is remembered of them, from one directory to the next
--   SeesLaws          what the workspace shows of the volume
--
-- One directory, its first look:
--   Looking           a look at the entries of a chunk, and at the chunks, one after another
--   LookLaws          what the look finds: quiet entries
--   LimitedLaws       what it leaves of the image that it was limited on, and of the reads that are left
--   Skipping          inodes before the first directory that is looked at
--   EmptyLaws         inodes that are no directories, and directories of size 0
--   SilentLaws        nothing is reported of a directory that the survey found calm
--   ChecksNeededLaws  which directories need a check
--
-- One directory, its lines:
--   HeaderLaws        what is wrong before its entries, in the program and in the book
--   FirstTwo          its first two entries, and its parent
--   VerdictLaws       what is gathered for a verdict suffices
--   Begun             a directory that is begun, and how its lines continue
--   Passing           entries are reported and passed, one after another and chunk by chunk
--   EntryReports      the lines of an entry, at least one
--   Saying            messages said one after another
--   Limiting          what a line shows, gathered over an image with a limit
--   PathOnce          the path of a directory is made once for all lines on its entries
--   LineCounts        how many lines there are, and how many reads they make
--
-- All directories:
--   ReadyLaws         what is ready stays so where a chunk is read
--   Carrying          what is known between two directories, from one to the next
--   Findings          what was found before is as it was
pub mod StampLaws
pub mod PassedLaws
pub mod LookLaws
pub mod BetweenLaws
pub mod Saying
pub mod HeaderLaws
pub mod Looking
pub mod SeesLaws
pub mod VerdictLaws
pub mod ReadyLaws
pub mod Passing
pub mod FirstTwo
pub mod LineCounts
pub mod Limiting
pub mod Begun
pub mod EmptyLaws
pub mod Carrying
pub mod Skipping
mod SilentLaws
pub mod LimitedLaws
pub mod EntryReports
pub mod PathOnce
pub mod ChecksNeededLaws
pub mod Findings
