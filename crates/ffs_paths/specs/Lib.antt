-- What the contracts on paths cite, in the order to read it: each file rests on those before it. The public calls,
-- what their clauses are, and in which files:
--
--   path_of                    path_in (`Climbing`), ReadsNames (`Reads`)
--   directory_path             IsPathOf (`DirectoryPaths`), ReadsNames
--   KeptParent::path_to        IsPathOf, PathCosts (`KeptParents`); KeptParent::put_path writes that path
--   EntryPaths::put            last_path (`LastPaths`): the path of an entry, by that of its directory (IsPathOf)
--
-- Reading: `Reads` has the values that calls change, what is known of the tree (ForTree), and how often a call for a
-- name or a path reads.
--
-- Bytes: `NameTexts` is about one name, `Slashes` about names with a `/` before each, `Buffers` what a buffer of a
-- path holds, `DirectoryPaths` that this is the path of a directory (IsPathOf).
--
-- Paths: `Climbing` is the way up to the root, name by name, `KeptParents` what is kept for the next directory,
-- `EntryPaths` and `LastPaths` the paths of entries.
pub mod Reads
pub mod NameTexts
pub mod Slashes
pub mod Buffers
pub mod DirectoryPaths
pub mod Climbing
pub mod KeptParents
pub mod EntryPaths
pub mod LastPaths
