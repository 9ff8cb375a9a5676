-- What is known of a lease before and while its groups are laid. No demand mentions it.
pub mod Lease
