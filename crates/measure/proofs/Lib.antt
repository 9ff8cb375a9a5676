-- The laws of marks and of what is measured on them, by topic.
pub mod Indexes
pub mod Finding
pub mod Marking
pub mod Counts
pub mod Union
pub mod Pits
