-- The laws of lists and of the books that are made of them.
pub mod Signed
pub mod Runs
pub mod Writing
pub mod Books
