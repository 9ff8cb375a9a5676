-- What the contracts of `grid` cite, and no demand: the runs of a job from its arrays, and the lines of one axis.
pub mod Tables
pub mod Runs
pub mod Lines
