-- What the laws of the certificate are about, file by file.
--
-- Blocks:
--   Keeping          the fold over steps keeps what the rule keeps
--   Rising           the logical blocks of an inode's Runs rise
--   Potentials       each Run that is seen uses up a fragment, a bad Run or a dup offer
--   BlockLaws        where steps and inodes have no line of phases 1 and 1b
--   BlocksSilent     phases 1 and 1b report nothing exactly where every fragment has one owner at most
--
-- Directories:
--   Reached          which directories are reached, and the lines that say so
--   Suspects         where the checks are silent, no directory has size 0
--   Silent           when phases 2, 3 and 4 are silent
--   DirsCertificate  they are silent exactly where directories, links and counts are right
--
-- Groups:
--   GroupLaws        phase 5 reports nothing exactly where all groups are right
--
-- The whole volume:
--   VolumeLaws       what is known of an image's volume, and that all is kept where the block check is silent
--   ConditionLaws    each condition holds exactly where nothing is reported for it
--   ReportLaws       a report has no defect exactly where the volume is consistent
--   Examples         the examples, by computation
pub mod BlockLaws
pub mod BlocksSilent
pub mod GroupLaws
pub mod Keeping
pub mod Reached
pub mod ReportLaws
pub mod VolumeLaws
pub mod Suspects
pub mod DirsCertificate
pub mod Potentials
pub mod ConditionLaws
pub mod Examples
pub mod Rising
pub mod Silent
