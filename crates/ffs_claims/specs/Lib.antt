-- What the contracts of phases 1 and 1b cite, in the order to read it: each file rests on those before it. Who only
-- wants to know what the phases promise begins at the end, with `Phases` and `BeforeFault`:
--
--   phase1     IsLeftByPhase1, or Phase1FoundInPart where it fails; Phase1Reads; Phase1Keeps, what stays as it was;
--              SaidBelow (in `BeforeFault`), what was said where a read failed
--   phase1b    IsLeftByPhase1b; GoesOverOffers, also where it fails; Phase1bReads; Phase1bKeeps (in the file
--              `Reporting`), what stays; phase1b_messages_for, what a second call says; ClearsAsSaid (in
--              `Reporting`), how many fragments are left for that; DupsSaidBelow as SaidBelow
--
-- For both phases: `Moments` has the values that calls change, `Lines` the lines as messages of a report, `Leaves`
-- what calls need of a workspace and leave of it as it was, `Bounds` the bounds on counts there.
--
-- Phase 1, what inodes claim: `Area` is about fragments where each Run is in range. `Claiming` leads from an inode to
-- its steps, a step and its offers: ClaimsOwner (of `claim_inode`), ClaimsSteps, ClaimsStep, TakesOffers, TakesOffer.
-- What claims with nothing to report is claimed together: `SilentAddresses` is about the next addresses of a walk, and
-- `Series` about those of them that name whole blocks in a row. `FreeInodes` is about inodes that are passed over.
--
-- Phase 1b, who had a fragment first: `Reporting` has what is reported of kept offers (ReportsOffers), and that so
-- many fewer are left as were said whole (ClearsAsSaid), `Rewalking` those of the Runs of an inode, how many
-- Runs are looked at for that, and both together of an inode (Rewalks).
pub mod Moments
pub mod Lines
pub mod Bounds
pub mod Leaves
pub mod Area
pub mod Claiming
pub mod SilentAddresses
pub mod Series
pub mod FreeInodes
pub mod Reporting
pub mod Rewalking
pub mod Phases
pub mod BeforeFault
