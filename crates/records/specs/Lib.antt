-- The records of a plan book, read.
pub mod Records
