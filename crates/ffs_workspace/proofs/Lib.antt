-- What the lemmas are about: `KindLaws`, `NoteLaws`, `PlaceLaws` and `PartLaws` what a kind, a note and a place say,
-- `TablePlaces` where inodes are, `Requests` and `DupCounts` how a workspace is made and what it counts, `Readiness`
-- and `Leaving` that it stays ready, and holds what it held.
pub mod KindLaws
pub mod NoteLaws
pub mod TablePlaces
pub mod PlaceLaws
pub mod PartLaws
pub mod Leaving
pub mod Readiness
mod Requests
mod DupCounts
pub mod TableReadLaws
