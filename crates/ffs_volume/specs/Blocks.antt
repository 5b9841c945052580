-- Blocks: inodes, the steps over their addresses, which fragments they get, and the lines of phases
-- 1 and 1b. Who only wants to know which offers are kept reads `offer_verdict` of `KeptByRule`, which is
-- one rule; `Claims`, `KeptOffers` and `BlockCheck` go over the same steps for the state, the offers
-- and the lines.
pub mod Inodes
pub mod Steps
pub mod Owners
pub mod Claims
pub mod KeptOffers
pub mod KeptByRule
pub mod BlockCheck
pub mod KeptSteps
