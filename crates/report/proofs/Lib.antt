pub mod Lines
pub mod Answered
pub mod Reported
pub mod Sample
