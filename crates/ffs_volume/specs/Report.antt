-- The report: its opening, its messages, its end and its status, and the bounds on memory, on Runs
-- and on reads.
pub mod Opening
pub mod Whole
pub mod Headings
pub mod Memory
pub mod Reads
