-- The laws of the crate.
pub mod Records
pub mod Sets
