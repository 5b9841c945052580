-- What a workspace, the memory of a check, stores of an inode: its class as a number, where the
-- count of its references starts, its kept offers as one number, from which they are replayed, the
-- address of a directory's only chunk, and where a directory's parent entry is.
pub mod Kinds
pub mod Links
pub mod Lists
pub mod Replay
pub mod ReplayCounts
pub mod Notes
pub mod Places
