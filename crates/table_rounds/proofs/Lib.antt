-- Laws of the lines that are read.
pub mod Short
