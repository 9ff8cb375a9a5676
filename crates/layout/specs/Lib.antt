-- The routes of all runs, from the centre's moves: crate `sharing` says what a leaf's steps are, these say how the code holds them. No demand mentions
-- them.
pub mod Points
pub mod Stretch
pub mod Way
pub mod Laid
