-- The laws of the crate: a book that is accepted, ..
pub mod Taken
pub mod Places
pub mod Stands
pub mod Counts
pub mod ByPlaces
pub mod Accepted
pub mod Tests
pub mod Written
pub mod Readback
pub mod Prefix
-- .. the loop that reads it, ..
pub mod Summary
pub mod Progress
-- .. and the corners of a route.
pub mod Turning
