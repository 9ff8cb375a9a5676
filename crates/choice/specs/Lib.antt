-- What the call that chooses between two plan books promises (document 02, C-17).
pub mod Choice
-- our own plan as the first of them
pub mod Ours
