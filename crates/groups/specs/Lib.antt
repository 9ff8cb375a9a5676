-- The groups of a graph (02, C-16): by chains, to be computed, and that both are the same.
pub mod Chains
pub mod Groups
pub mod ByChains
-- what the laws suppose, and how a vertex knows its centre; no demand mentions them
pub mod Graph
pub mod Near
