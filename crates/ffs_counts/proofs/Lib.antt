-- What the lemmas of phases 4 and 5 and of the summary are about:
--   Phase 4    `Holding` the lines of an inode by the lists, `InodesBelow` what is said before a failed read
--   Phase 5    `GroupText` the lines group after group, `GroupsBelow` and `SaidMore` what is said before a failed
--              read, `GroupReads` how often is read, `RecordPlaces` where records lie
--   Both       `Classes` the lines and files by kinds, `ReservedCount` how many fragments are claimed
pub mod RecordPlaces
pub mod ReservedCount
pub mod Classes
pub mod GroupText
pub mod GroupsBelow
pub mod SaidMore
pub mod Holding
pub mod InodesBelow
pub mod GroupReads
