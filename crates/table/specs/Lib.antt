-- What the contracts of `table` cite, and no demand.
pub mod Side
pub mod OnSides
pub mod Frame
pub mod Rule
pub mod Walk
