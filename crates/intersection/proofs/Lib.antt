-- Laws of sets, meetings and centres, for the functions here and for callers.
pub mod Digits
pub mod Lists
pub mod Members
pub mod Cases
pub mod Meetings
pub mod Held
pub mod Finding
