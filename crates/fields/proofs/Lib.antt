-- The laws of bytes in a buffer.
pub mod Over
