-- What the laws and lemmas on the definitions are about, file by file. The crates above cite them too.
--
-- Layouts and fragments:
--   OutcomeLaws      each way in which the outcome of a superblock comes about
--   AcceptedLaws     what an accepted superblock has (`Laws/Accepted`)
--   GeometryLaws     what an accepted layout has (`Laws/Geometry`)
--   AreaLaws         its areas
--   RunLaws          a run is in range where its ends show it
--   Sizes            there is an inode 2, and an inode of size 0 has no steps
--
-- Blocks:
--   StepLaws         the Runs of data of an inode come in the order of its logical blocks
--   Potentials       what Runs that are seen and offers that are kept use up
--   RunBounds        how many Runs are seen at most
--   PrefixLaws       kept offers are a prefix of the offers
--   OwnerLaws        one inode after another
--
-- Directories:
--   Reading          the entries of a chunk, read one after another
--   Longest          they are the longest list of well formed ones
--   ChunkLaws        how many chunks a directory has at most
--   RoleLaws         `Roles`
--   Graphs           conditions on graphs of directories
--   LevelLaws        levels are least numbers of edges (`Laws/Levels`)
--   ClimbLaws        `Climb`
--   Unreached        what isn't reached, and what is lost
--   PathBound        how long a path is at most
--   VerdictLaws      where a verdict, or what is wrong with a directory, has a message
--   Silence          when a list of messages is empty
--   Numbered         how the lines of ascending numbers continue
--
-- What is stored:
--   ReplayIsKeeping  a replay keeps what was kept
--   ReplayLaws       the Runs that a replay sees, and one that counts only where there is a cut
--   CutLaws          the cut of an inode fits 32 bits, and says which of its steps are kept
--   LinkLaws         what a count of references says of an inode's links
--
-- Numbers, tests, flags and results: Below, SearchLaws, Pigeon, Booleans, Flags, Results.
--
-- Statements of src/laws.rt: LawsHold; OpeningExamples, BlockExamples and DirectoryExamples, by computation.
pub mod Longest
pub mod Reading
pub mod PathBound
pub mod DirectoryExamples
pub mod BlockExamples
pub mod OpeningExamples
pub mod LawsHold
pub mod LinkLaws
pub mod Numbered
pub mod Unreached
pub mod Sizes
pub mod OutcomeLaws
pub mod AreaLaws
pub mod RunLaws
pub mod StepLaws
pub mod Potentials
pub mod RunBounds
pub mod CutLaws
pub mod ChunkLaws
pub mod Pigeon
pub mod GeometryLaws
pub mod PrefixLaws
pub mod SearchLaws
pub mod ClimbLaws
pub mod LevelLaws
pub mod Graphs
pub mod ReplayIsKeeping
pub mod ReplayLaws
pub mod AcceptedLaws
pub mod Below
pub mod OwnerLaws
pub mod Silence
pub mod VerdictLaws
pub mod Booleans
pub mod Flags
pub mod RoleLaws
pub mod Results
