-- The laws of a grid's lines, and of what columns leave.
pub mod Loops
pub mod Line
pub mod Answers
pub mod Cost
pub mod Rest
pub mod Drawn
