-- The laws of paths of unit steps, by topic; docs/PROOF.md has the argument in prose. Theorem: they save no digging. Attained: the plan is such paths.
pub mod Totals
pub mod Cuts
pub mod Narrower
pub mod Edges
pub mod Rounding
pub mod Emptiest
pub mod Theorem
pub mod Walks
pub mod Returned
pub mod Units
pub mod Attained
pub mod Sample
