-- What the lemmas are about: `Asking` several requests, `Touched` elements that are touched, `SortedParts` a part that
-- is put in order.
pub mod Asking
pub mod SortedParts
pub mod Touched
