-- Laws of groups and their centres.
pub mod Parts
pub mod Chains
pub mod Groups
pub mod Stars
pub mod Near
pub mod ByChains
pub mod Runs
