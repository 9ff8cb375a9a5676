-- Laws of a lease: its routes part by part, what the centres' routes share, and the best routes.
pub mod Apart
pub mod Excess
pub mod Theorem
pub mod Runs
