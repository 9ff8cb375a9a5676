-- The laws of the choice.
pub mod Cases
pub mod Ours
