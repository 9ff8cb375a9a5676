-- The writer of job books: document 02, C-15.
pub mod Listed
pub mod Call
pub mod Books
