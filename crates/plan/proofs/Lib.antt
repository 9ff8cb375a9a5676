-- The laws of a plan's bytes, by topic.
pub mod Corners
pub mod Length
pub mod Runs
pub mod Determined
pub mod Whole
mod Example
