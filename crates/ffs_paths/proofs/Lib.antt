-- What the lemmas on paths are about, file by file.
--
-- Names:
--   ChunkNames    the name of an inode in a chunk, by its entries one after another
--   NoSlashes     no name of a volume's entries has a `/`
--
-- The names of a path:
--   Held          the names that a buffer holds, with one more before or after them
--   LongestEnds   the longest end of the names of a path, and its text with one more name after them
--   Rooms         the paths of a directory and of its entries, by what is kept of them
--
-- The way up to the root:
--   WaysUp        the way from a directory up to the root
--   Climbed       how far a climb has come, and how often it has read
--   Keeping       what is kept of a directory and its children stays right where only other parts change
--   Sparing       what a path leaves unread where that of the parent is kept
pub mod ChunkNames
pub mod Climbed
pub mod Held
pub mod Keeping
pub mod LongestEnds
pub mod NoSlashes
pub mod Rooms
pub mod Sparing
pub mod WaysUp
