-- What an answer is by its number.
pub mod Number
