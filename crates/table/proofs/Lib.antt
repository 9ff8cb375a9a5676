-- Laws by topic, cited by the proofs of the functions.
pub mod Boxes
pub mod Lines
pub mod Rule
pub mod Filling
pub mod Walking
pub mod Named
pub mod Drawn
pub mod Axis
pub mod Star
pub mod Survey
