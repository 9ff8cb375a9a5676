-- The laws of the crate.
pub mod Tests
pub mod TrueIff
pub mod Entries
pub mod Agreeing
pub mod Pieces
pub mod Tracing
pub mod Ends
pub mod Marked
pub mod Measuring
pub mod Judging
