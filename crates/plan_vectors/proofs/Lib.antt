-- Laws of the test that a route stays on the grid.
pub mod Counts
