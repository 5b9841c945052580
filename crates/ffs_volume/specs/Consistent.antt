-- Consistency: of blocks, of directories, of groups, and of the whole volume (`IsConsistent`).
pub mod BlocksRight
pub mod DirectoriesRight
pub mod GroupsRight
pub mod Volume
