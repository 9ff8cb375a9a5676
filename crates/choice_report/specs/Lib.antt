-- What is listed of a choice between two plan books.
pub mod ChoiceText
