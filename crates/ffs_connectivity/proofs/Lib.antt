-- What the lemmas of phase 3 are about, file by file:
--   Walks        walks along parents, and the leaders of cycles
--   UnrefLaws    the test of an unreferenced directory, from what a workspace holds of each inode
--   UnrefLines   what is reported
pub mod Walks
pub mod UnrefLaws
pub mod UnrefLines
