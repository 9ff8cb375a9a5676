-- The laws of routes on lines, by topic.
pub mod Lists
pub mod Stored
pub mod Lanes
pub mod Turns
pub mod Walk
pub mod Touched
pub mod Corners
pub mod Marks
pub mod Few
