-- What the contracts of `figures` cite, and no demand.
pub mod Coordinates
