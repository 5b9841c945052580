-- What the contracts of phase 3 cite, in the order to read it: each file rests on those before it. The clauses of
-- `phase3` are those of each phase (PhaseReports of ffs_report, LeavesSurvey of ffs_workspace). What is reported of
-- an inode the book says (`unref_dir_lines`). `Unreached` says from which inode on there is something to look at;
-- `Cycles` is about walks along parents, by which `flag_leaders` flags a directory of each cycle (FlagsEachLeader);
-- `Leaders` says which directories are flagged in a workspace, and `Phase3` what is needed at an inode
-- (`report_unref`), and how its lists say that it is reported. `BeforeFault` says which lines were said before a
-- read that fails.
pub mod Unreached
pub mod Cycles
pub mod Leaders
pub mod Phase3
pub mod BeforeFault
