-- Cylinder groups: their counts and maps, and the lines of phase 5.
pub mod Records
pub mod GroupCheck
