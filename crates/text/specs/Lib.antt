-- The listing of document 01.
pub mod Numerals
pub mod Text
pub mod Listed
-- what the contracts between speak of: any bytes, record by record
pub mod Listing
