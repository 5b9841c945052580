-- What the contracts of phases 4 and 5 and of the summary cite, in the order to read it. The clauses of `phase4` and
-- `phase5` are those of each phase (PhaseReports of ffs_report, IsReady of ffs_workspace), and one on what was said
-- before a read that failed; that of `summary` is SaysSummary (`Summary`). Each file, and the function that it is for:
--
-- Phase 4: `Ready` is what the check of references needs, and which inodes aren't allocated; `References` is what is
-- reported of an inode (`line_for`); `Skipped` is which inodes are passed over (`skipped_from`).
--
-- Phase 5: `Records` says which summary records are read at a time, and what is found of a group (GroupIsRead of
-- `read_group`); `Once` is about messages that are said once, `Totals` about the sums of all groups.
--
-- Both phases: `BeforeFault` is what was said where a read failed.
--
-- The summary: `Reserved` and `Summing` are how many fragments and files it counts, `Summary` what it says.
pub mod Ready
pub mod References
pub mod Skipped
pub mod Records
pub mod Once
pub mod Totals
pub mod BeforeFault
pub mod Reserved
pub mod Summing
pub mod Summary
