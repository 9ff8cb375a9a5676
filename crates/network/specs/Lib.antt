-- What a least plan is, after document 000 (sections 2.1 to 2.3) and document 01. A number is a coordinate or a length in decimetres.
pub mod Lists
pub mod Plane
pub mod Grid
pub mod Distinct
pub mod Hanan
pub mod Route
pub mod Graph
pub mod Corners
pub mod Pits
-- checked, nothing to believe: that the lines of these grids rise
pub mod DistinctRises
pub mod Entries
-- what the layers up to the planner are stated with, and no demand mentions
pub mod Excess
pub mod Steps
pub mod Passes
pub mod Slopes
pub mod Apart
pub mod Boxes
pub mod Sharable
