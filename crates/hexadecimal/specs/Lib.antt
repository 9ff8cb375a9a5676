-- Lines of text and bytes in hexadecimal.
pub mod Counts
pub mod Digits
pub mod Lines
