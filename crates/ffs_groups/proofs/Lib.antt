-- What the lemmas on a group are about, file by file.
--
--   Sums        sums and counts over numbers in a row, and where all or none of them count
--   MapWords    the words of a map, read at once or by bytes
--   FreeWords   what words of free fragments add to the counts
--   Stretches   stretches of free fragments, from one to the next
--   Adding      what the blocks of a group add to the counts, by stretches and by blocks
--   Checks      the numbers of a group block, by the bits of signed numbers
pub mod Sums
pub mod FreeWords
pub mod Adding
pub mod MapWords
pub mod Checks
pub mod Stretches
