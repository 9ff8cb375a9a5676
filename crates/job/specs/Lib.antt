-- document 01's meaning
pub mod Fields
pub mod Written
pub mod Applies
pub mod Order
-- the reading that the contracts cite
pub mod Records
pub mod Parse
-- what the reader's contracts speak of besides
pub mod Reading
