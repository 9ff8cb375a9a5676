-- The laws of layout, by topic: what the loops build, what is laid, and that it is best.
pub mod Lists
pub mod Growing
pub mod Finding
pub mod Parts
pub mod Ways
pub mod Laying
pub mod Consecutive
pub mod Lifting
pub mod Fitting
pub mod Drawing
