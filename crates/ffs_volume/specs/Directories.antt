-- Directories: entries and their roles, levels and parents, paths, and the lines of phases 2, 3 and 4.
-- Five tests have one meaning:
-- `is_directory` takes a class, `is_dir` a number of a volume, `is_dir_inode`, of `Groups`, a number
-- and the classes, `is_dir_kind`, of `Encodings`, what the program stores of an inode, and `is_dir_at`
-- there what it stores of all and a number. The `kind` of an entry is its type, DT_DIR and so on.
-- `first` says of a chunk that it is at the start of the file; in `header_defects` it is the
-- directory's first entry. `first_naming` says of an entry that no plain entry before it names its
-- inode.
pub mod Entries
pub mod Roles
pub mod Climb
pub mod Graph
pub mod Naming
pub mod Paths
pub mod PathnameCheck
pub mod Connectivity
pub mod ReferenceCheck
pub mod Volumes
