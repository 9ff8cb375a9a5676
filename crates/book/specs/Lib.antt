-- The plan books of document 02, C-12.
pub mod Parse
pub mod Right
pub mod Reading
-- what the contracts between speak of
pub mod Shape
