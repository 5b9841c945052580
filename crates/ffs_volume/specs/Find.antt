-- What the program `ffs_find` prints of an image, command by command: lines of words, with a blank
-- between two of them.
pub mod Copies
pub mod InodeText
pub mod Fields
pub mod Lost
pub mod Owner
