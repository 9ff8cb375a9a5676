pub mod Chosen
pub mod Whole
