-- What is judged of a plan book for a job (document 02, C-17).
pub mod True
pub mod Judged
-- what the contracts between speak of
pub mod Steps
