-- What is laid for each centre of a lease.
pub mod Lease
