-- What the listing of a stored plan says.
pub mod BookListed
