-- What the lemmas on phases 1 and 1b are about, file by file.
--
-- For both phases:
--   Frames         what reads, claims and reports leave of a workspace that is ready
--   StepsContinue  offers, steps and inodes, one after another
--   Numbers        the numbers of inodes, one after another
--   Reserved       the bits of the reserved fragments
--   BeforeFaults   what was said where a read failed
--
-- Phase 1:
--   Inodes         how an inode's part continues, and how many Runs it is seen to have
--   UnclaimedRuns  Runs that claim with nothing to report, and which Runs are in range
--   WordClaims     words of an indirect block that claim so, one after another
--   SeriesClaims   a series of Runs that such words name
--   FreeInodes     free inodes, by their bytes, and one after another
--   Duplicates     which inodes the lines blame, and whether there is a DUP line
--   TableReads     how often the inode tables are read
--   IndirectReads  how many indirect blocks are seen, and how often an image that gives its bytes is read
--
-- Phase 1b:
--   Clearing       as many fragments stop being to report as messages are said whole
--   Reportings     offers and their lines, one after another
--   Rewalks        a second walk over an inode
--   Rescanned      from inode to inode
--   FirstOffers    each fragment with a DUP line has a kept offer
--   RescanCounts   a replay by its cut keeps what was kept, and how many Runs are looked at
pub mod Frames
pub mod StepsContinue
pub mod TableReads
pub mod Inodes
pub mod Reserved
pub mod Numbers
pub mod Duplicates
pub mod Clearing
pub mod Reportings
pub mod Rewalks
pub mod Rescanned
pub mod UnclaimedRuns
pub mod RescanCounts
pub mod WordClaims
pub mod FreeInodes
pub mod SeriesClaims
pub mod IndirectReads
pub mod FirstOffers
pub mod BeforeFaults
