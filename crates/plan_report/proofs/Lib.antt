pub mod Within
pub mod Books
