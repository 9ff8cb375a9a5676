-- What the argument is stated with, and no demand: what a star's routes can share, boxes in the centre's view, owners, the table's rules, the traced walk, the leaves' routes, and best routes.
pub mod Box
pub mod Instance
pub mod Table
pub mod Trace
pub mod Walk
pub mod Leaf
pub mod View
pub mod Star
