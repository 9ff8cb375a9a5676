-- What the contracts of `measure` cite, and no demand: marks of routes on a grid, and what is measured on them.
pub mod Marks
pub mod Measured
