-- The plan book of document 01.
pub mod Records
pub mod Plan
pub mod Fits
-- what the writers' contracts speak of, and no demand
pub mod Writers
