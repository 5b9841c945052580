-- What a check of known bytes reads at most, by what the volume holds. `Calm` says of some directories that
-- phase 2 can report nothing of them: where no other is there, each is read once. `DirectoryReads` is
-- phase 2, and `VolumeReads` the whole check. They speak of what the program stores of inodes (folder
-- `Encodings`). `RescanRuns` counts the Runs that phase 1b looks at.
pub mod RescanRuns
pub mod Calm
pub mod DirectoryReads
pub mod VolumeReads
