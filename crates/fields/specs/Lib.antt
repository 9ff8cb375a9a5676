-- What the writers' contracts speak of.
pub mod Bytes
