-- The disk: numbers in bytes, the superblock, where the parts of a volume lie, and which
-- superblocks are accepted.
pub mod Numbers
pub mod Search
pub mod Superblock
pub mod Areas
pub mod Outcome
