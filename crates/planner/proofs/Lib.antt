-- The laws behind the planner's contract, and what follows from it.
pub mod Stars
pub mod First
pub mod Demands
pub mod Fits
pub mod Touching
pub mod Room
pub mod Counted
pub mod Stored
pub mod Examples
pub mod Held
pub mod Verdicts
pub mod Judged
pub mod Leased
pub mod Writing
pub mod Stages
pub mod MapScreen
