-- What a caller of the parts cites in contracts of its own.
pub mod Cited
