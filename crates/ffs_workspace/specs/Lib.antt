-- What contracts say of a workspace, in the order to read it: each file rests on those before it.
--
-- Its form: `Tables` is about the window on the inode table, `TableReads` about how often it is read for lines,
-- `Lengths` about the lengths of all lists (IsFor) and what the windows hold.
--
-- What it holds: `Holds` has what each phase leaves in it for the next ones: HoldsPhase1, HoldsBlockCheck (phase 1b and
-- all after it), HoldsSurvey and HoldsReferences (the survey), HoldsFindings (all three, which phase 4 needs of phase
-- 2).
--
-- What calls need and leave: `Ready` has IsReady, which each phase needs and leaves, and CanRead, which calls within
-- a phase need and `forget_windows` makes of it: that the windows hold what this image gives. LeavesAllButWindows says that
-- only the windows have changed, and that CanRead holds. IsNew is of a workspace as it is made (`Workspace::new`,
-- `Workspace::in_memory`). `Leaves` says what the phases after the block check, and after the survey, leave of it as
-- it was. `Found` says of HoldsPhase1 and its like that the image gives the bytes, too: WithFresh, WithPhase1,
-- WithBlockCheck, WithSurvey and WithFindings are known when a phase begins. `Moments` has an image and a workspace
-- at a time.
pub mod Tables
pub mod TableReads
pub mod Lengths
pub mod Holds
pub mod Ready
pub mod Leaves
pub mod Found
pub mod Moments
