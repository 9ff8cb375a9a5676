-- Laws of a job's lines, for the functions here and for callers.
pub mod Tables
pub mod Insert
pub mod Places
pub mod Shifting
pub mod Values
pub mod Hanan
