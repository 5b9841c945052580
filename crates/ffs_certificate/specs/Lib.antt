-- Statements about the definitions of ffs_volume. Each law of src/lib.rt ensures one of them, and they are in these
-- files:
--
--   report_is_right, stop_is_reported                   ReportIsRight, StopIsReported (`ReportRight`)
--   silent_is_right                                     SilentIsRight (`DirsCertificate`)
--   blocks_and_groups_are_certified, keeping_is_by_rule BlocksAndGroups, KeepingByRule (`Certificate`)
--   conditions_are_reported                             ConditionsAreReported (`Conditions`)
--   claims_are_bounded                                  ClaimsAreBounded (`Bounded`)
--   blocks_rise                                         AllBlocksRise (`BlocksRise`)
--   examples_hold                                       WorkedExamples (`WorkedExamples`)
--
-- Begin with `ReportRight`, the certificate: it is about a whole report, the others about its parts. `Premises` says
-- what proofs may assume of a volume (of `DirsCertificate`). The examples are computed: `ReportExamples` has whole
-- reports, `MessageExamples` the bytes of messages, `KeptExamples` which steps are kept.
pub mod Premises
pub mod Certificate
pub mod DirsCertificate
pub mod ReportRight
pub mod Bounded
pub mod Conditions
pub mod ReportExamples
pub mod BlocksRise
pub mod MessageExamples
pub mod KeptExamples
pub mod WorkedExamples
