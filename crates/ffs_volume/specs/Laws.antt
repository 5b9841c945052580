-- What follows from the definitions: facts that contracts and proofs need, no further rules, and
-- statements that say of the definitions what they are meant to say, which `laws.rt` cites.
pub mod Geometry
pub mod RunLengths
pub mod ClaimBounds
pub mod Levels
pub mod Accepted
pub mod Meanings
