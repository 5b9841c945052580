-- The messages of a report, and how they show bytes and numbers.
pub mod Kinds
pub mod Shown
pub mod Texts
