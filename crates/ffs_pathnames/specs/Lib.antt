-- What the contracts of phase 2 cite, in the order to read it: each file rests on those before it. Who only
-- wants to know what the phase promises begins at the end, with `Phase2`, and looks up what that cites.
--
-- What is remembered of names: `Stamps` says which parent entries are due, `PassedNames` which names were passed
-- and what is reported by that, `Silent` of which directories nothing is reported, `PassedRight` that what is
-- remembered is right, `Sees` what the lists of the workspace show of a volume.
--
-- What calls need, and leave: `Moments` has the values that calls change, `KnowsAtDirectory` what is known of
-- the bytes at a directory, `Ready` when paths can be made, `LineReads` how many reads lines take, `Gathers`
-- what messages show, `Before` what is known between two directories, `ReadsLeft` how many reads are left for
-- first looks and second readings. A name with `Knows` says what is known of the bytes: a clause is for those
-- of which that holds.
--
-- The first look at a directory: `StartChunks` is about its first chunk, `Looks` about the entries of a chunk,
-- `DirectoryLooks` about all of it, `HeaderValues` about what is found, and is wrong, before its entries, `Begins`
-- about what is known then.
--
-- Its second reading: `NextChunks` is about one chunk after another, `SaysTreeMessages` about saying a line,
-- `EntryLines` about the lines of entries.
--
-- The phase: `ChecksNeeded` says which directories are checked, `Tasks` what each call is asked to say of a
-- directory, `DirectoryLines` that it says this, and how often it reads for it, `RootAnswers` whether the check
-- continues after the root, `Phase2` what the phase leaves and reads.
pub mod Stamps
pub mod PassedNames
pub mod Silent
pub mod PassedRight
pub mod Sees
pub mod Moments
pub mod KnowsAtDirectory
pub mod Ready
pub mod LineReads
pub mod Gathers
pub mod Before
pub mod ReadsLeft
pub mod StartChunks
pub mod Looks
pub mod DirectoryLooks
pub mod HeaderValues
pub mod Begins
pub mod NextChunks
pub mod SaysTreeMessages
pub mod EntryLines
pub mod ChecksNeeded
pub mod Tasks
pub mod DirectoryLines
pub mod RootAnswers
pub mod Phase2
