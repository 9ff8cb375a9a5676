pub mod Listed
pub mod Numerals
pub mod Signed
pub mod Records
pub mod Listing
pub mod Plan
pub mod Length
