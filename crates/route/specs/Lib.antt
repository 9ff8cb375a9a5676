-- What the contracts of `route` cite, and no demand: routes as steps on the grid's lines, their corners, and the marks that count pits.
pub mod Route
pub mod Stored
pub mod Walker
pub mod Marked
