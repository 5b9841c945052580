-- What the contracts of `ffs_find` cite, in the order to read it: each file rests on those before it. Which lines a
-- command prints of an image's bytes is in the book (`Find` of ffs_volume). Who only wants to know what the program
-- promises begins with FindsCommand of `Headline`. The public functions, and what their clauses are:
--
--   run                    RunsProgramFlushed of ffs_check, over `ffs_find` (`Run`), and so IsFoundIn
--   find_in                FindsCommand (`Headline`)
--   find_copies            Finds (`Outcome`), ReadsCopies and FailsBeforeCopy (`Copies`)
--   find_inode             Finds
--   find_owner             Finds, where phase 1 was run (WithBlocks of `Claims`); of its parts FindsAllKeepers and
--                          FindsKeeper (`Keepers`)
--   find_lost              FindsAny (`Outcome`), where phase 1 was run (WithBlocks of `Claims`); of its parts
--                          FindsWrong (`LostMaps`), and where a read fails FailsForLost
--   find_wrong_fields      FindsAny, where a superblock is accepted (WithSuper of `Fields`)
--
-- `Outcome` says what a command leaves of image and output, by its answer. A file for each command follows, but for
-- `inode`: `Copies`, `Fields`, `GroupMaps` and `LostMaps` (lost), `Claims` (phase 1, for lost and owner), `Keepers`
-- (owner). `Headline` puts them together: how a command ends, what it takes and what it reads.
--
-- The words: `CommandWords` says what they ask for, `Operands` what the program has of them, `WrongWords` what is
-- written where they are wrong, and `Run` what `ffs_find` promises as a program of ffs_check.
pub mod Outcome
pub mod Copies
pub mod Fields
pub mod GroupMaps
pub mod LostMaps
pub mod Claims
pub mod Keepers
pub mod Headline
pub mod CommandWords
pub mod Operands
pub mod WrongWords
pub mod Run
