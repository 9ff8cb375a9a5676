-- What the functions for C answer and leave.
pub mod Words
pub mod Told
pub mod Jobs
pub mod Needed
pub mod Chosen
