-- The laws of the crate.
pub mod Filled
pub mod Codes
pub mod Jobs
