-- The laws of the crate.
pub mod Numbers
