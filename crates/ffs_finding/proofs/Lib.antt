-- What the lemmas on `ffs_find` are about, file by file.
--
-- The owner of a fragment:
--   Claimed       a fragment is claimed just where an inode keeps an offer of it
--   Replayed      the lines of an inode that is walked over again, Run by Run
--   Walking       how the walk over the blocks of an inode continues, and how many steps it has at most
--   Keepers       how the lines of an inode are found
--   Owners        the lines of inodes, one after another
--
-- Lost fragments:
--   Stretches     the lines of stretches of numbers that pass, one after another
--   LostGroups    what the maps of groups say wrongly, of one group and of all
--   LostParts     the lines of lost fragments, and then those of fragments that are marked as free
--
-- Copies of the superblock:
--   Magics        the magic number of a superblock, in a window on an image
--   CopySteps     what is left of one sector, by what was found there
--   CopyLaws      the lines of the sectors from one on, and the reads of the sectors before it
--
-- Wrong fields of the superblock:
--   Exponents     the exponents of powers of two
--   WrongFields   the lines of wrong fields, field by field, and whether there is one
--   FieldTexts    these lines in two parts: of fields that follow from the layout, and of totals
--
-- A command:
--   Claiming      what phase 1 leaves over an output that never fails
--   ClaimTargets  a target found in a workspace that holds what phase 1 leaves
--   Leaving       what a search leaves of a workspace
--   Targets       a target found in a volume, as the command that asks for it
--
-- Texts and words:
--   Printing      how lines are printed, one after another
--   Lines         a line of a report by itself
--   Ranges        texts and lines of the numbers of a range
--   ProgramWords  the words of the program are simple ones to `clap`
pub mod Claimed
pub mod Keepers
pub mod Owners
pub mod Replayed
pub mod Walking
pub mod Printing
pub mod Ranges
pub mod Magics
pub mod Exponents
pub mod WrongFields
pub mod CopyLaws
pub mod Lines
pub mod ProgramWords
pub mod CopySteps
pub mod FieldTexts
pub mod Claiming
pub mod Stretches
pub mod LostGroups
pub mod LostParts
pub mod Leaving
pub mod ClaimTargets
pub mod Targets
